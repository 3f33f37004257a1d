-- Old rows that are passed while new ones are made.
use Rattle.std.proofs.Common.{◌≡◌, ℕ, ◌+◌, ◌<◌, ◌≤◌, ◌∙◌, ◌++◌, Bool, true, false, nat_lt, List, [], ◌∷◌, length, map, take, get_or, refl, sym, ap, arith, Option, None, Some}
use Rattle.std.specs.Prelude.{◌==◌, if◌then◌else◌}
use Rattle.std.specs.List.{AllByRecursion}
use Rattle.std.proofs.lemmas.Bool.{cond-true, cond-false}
use Rattle.std.proofs.lemmas.Bool.Decides.{nat_tests}
use Rattle.std.proofs.lemmas.List.{map-append, take_more}
use Rattle.schedule.specs.Ids.{IdsRise}
use Rattle.ranked_rows.specs.Rows.{remade, row_at, rows_from}
use Rattle.ranked_rows.proofs.Shared.Places.{either_way, none_above}

-- what holds of both of two holds of the one that a test picks
in_either : {A : Type 0} (P : A → Type 0) (b : Bool) (x y : A) → P x → P y → P (if b then x else y)
in_either P true x y h k = h
in_either P false x y h k = k

-- what holds of the rows holds of those from a rank on
pub all_from : {T : Type 0} (P : T → Type 0) (rank : T → ℕ) (n : ℕ) (rows : List T) → AllByRecursion P rows
    → AllByRecursion P (rows_from rank n rows)
all_from P rank n [] all = tt
all_from P rank n (r ∷ rs) all = in_either (AllByRecursion P) (nat_lt (rank r) n) (rows_from rank n rs) (r ∷ rs)
    (all_from P rank n rs all.1) all

pub rise_from : {T : Type 0} (rank : T → ℕ) (n : ℕ) (rows : List T) → IdsRise rank rows
    → IdsRise rank (rows_from rank n rows)
rise_from rank n [] rise = tt
rise_from rank n (r ∷ rs) rise = in_either (IdsRise rank) (nat_lt (rank r) n) (rows_from rank n rs) (r ∷ rs)
    (rise_from rank n rs rise.1) rise

-- greater ranks have the same rows among those
pub row_from : {T : Type 0} (rank : T → ℕ) (m n : ℕ) (rows : List T) → m ≤ n
    → row_at rank n (rows_from rank m rows) ≡ row_at rank n rows
row_from rank m n [] le = refl
row_from rank m n (r ∷ rs) le =
    either_way (nat_lt (rank r) m)
    (λ hit. let off : (rank r == n) ≡ false = grind (arith, nat_tests) in rw (hit, off) (row_from rank m n rs le))
    (λ miss. rw miss refl)

-- the first of them is the row of the rank, or there is none
abbrev pub head_at : {T : Type 0} → (T → ℕ) → ℕ → List T → Option T
head_at rank n [] = None
head_at rank n (r ∷ rs) = if rank r == n then Some r else None

pub row_first : {T : Type 0} (rank : T → ℕ) (n : ℕ) (rows : List T) → IdsRise rank rows
    → row_at rank n rows ≡ head_at rank n (rows_from rank n rows)
row_first rank n [] rise = refl
row_first rank n (r ∷ rs) rise =
    either_way (nat_lt (rank r) n)
    (λ hit. let off : (rank r == n) ≡ false = grind (arith, nat_tests) in rw (hit, off) (row_first rank n rs rise.1))
    (λ miss. rw miss
    (either_way (rank r == n) (λ hit. rw hit refl)
    (λ off. rw off (none_above rank (rank r) n rs rise.0 (grind (arith, nat_tests))))))

-- and those behind it are those of greater ranks
abbrev pub behind : {T : Type 0} → (T → ℕ) → ℕ → List T → List T
behind rank n [] = []
behind rank n (r ∷ rs) = if rank r == n then rs else r ∷ rs

all_above : {T : Type 0} (rank : T → ℕ) (n : ℕ) (rows : List T) → AllByRecursion (λ r. n < rank r) rows
    → rows_from rank (n + 1) rows ≡ rows
all_above rank n [] all = refl
all_above rank n (r ∷ rs) all =
    cond-false (nat_lt (rank r) (n + 1)) (rows_from rank (n + 1) rs) (r ∷ rs)
    (let up : n < rank r = all.0 in grind (arith, nat_tests))

pub rest_first : {T : Type 0} (rank : T → ℕ) (n : ℕ) (rows : List T) → IdsRise rank rows
    → rows_from rank (n + 1) rows ≡ behind rank n (rows_from rank n rows)
rest_first rank n [] rise = refl
rest_first rank n (r ∷ rs) rise =
    either_way (nat_lt (rank r) n)
    (λ hit. let also : nat_lt (rank r) (n + 1) ≡ true = grind (arith, nat_tests) in
    rw (hit, also) (rest_first rank n rs rise.1))
    (λ miss. rw miss
    (either_way (rank r == n)
    (λ hit.
    let same : rank r ≡ n = grind (arith, nat_tests) in
    let under : nat_lt (rank r) (n + 1) ≡ true = grind (arith, nat_tests) in
    rw (hit, under) (ap (λ m. rows_from rank (m + 1) rs) (sym same) ∙ all_above rank (rank r) rs rise.0))
    (λ off. let over : nat_lt (rank r) (n + 1) ≡ false = grind (arith, nat_tests) in rw (off, over) refl)))

-- what the keys that are left take stands among the old rows that are left
pub record Still {K T : Type 0} (key_rank : K → ℕ) (rank : T → ℕ) (may_go : T → Type 0) (old left : List T)
    (keys : List K) : Type 0 where
  pub same : AllByRecursion (λ k. row_at rank (key_rank k) left ≡ row_at rank (key_rank k) old) keys
  pub rise : IdsRise rank left
  pub keys_rise : IdsRise key_rank keys
  pub owed : AllByRecursion may_go left

all_both : {X : Type 0} (P Q R : X → Type 0) (xs : List X) → ((x : X) → P x → Q x → R x) → AllByRecursion P xs
    → AllByRecursion Q xs → AllByRecursion R xs
all_both P Q R [] f h k = tt
all_both P Q R (x ∷ xs) f h k = (f x h.0 k.0, all_both P Q R xs f h.1 k.1)

-- so it does when a key has taken its row
pub still_more : {K T : Type 0} (key_rank : K → ℕ) (rank : T → ℕ) (may_go : T → Type 0) (old left : List T) (k : K)
    (keys : List K) → Still key_rank rank may_go old left (k ∷ keys)
    → Still key_rank rank may_go old (rows_from rank (key_rank k + 1) left) keys
still_more key_rank rank may_go old left k keys h = record {
  same = all_both (λ s. key_rank k < key_rank s)
      (λ s. row_at rank (key_rank s) left ≡ row_at rank (key_rank s) old) _ keys
      (λ s up same. row_from rank (key_rank k + 1) (key_rank s) left (omega (arith, up)) ∙ same) h.keys_rise.0 h.same.1;
  rise = rise_from rank (key_rank k + 1) left h.rise;
  keys_rise = h.keys_rise.1;
  owed = all_from may_go rank (key_rank k + 1) left h.owed;
}

-- the row of a rank is taken, where it stands first among those from the rank on
pub record IsTaken {T : Type 0} (rank : T → ℕ) (n : ℕ) (old : List T) (row : Option T) (rest : List T) : Type 0 where
  pub is : row_at rank n old ≡ row
  pub left : rows_from rank (n + 1) old ≡ rest

pub taken : {T : Type 0} (rank : T → ℕ) (n : ℕ) (old : List T) (x : T) (xs : List T) → IdsRise rank old
    → rows_from rank n old ≡ x ∷ xs → rank x ≡ n → IsTaken rank n old (Some x) xs
taken rank n old x xs rise is named =
    let hit : (rank x == n) ≡ true = grind (arith, nat_tests) in
    record {
      is = row_first rank n old rise ∙ ap (head_at rank n) is ∙ cond-true (rank x == n) (Some x) None hit;
      left = rest_first rank n old rise ∙ ap (behind rank n) is ∙ cond-true (rank x == n) xs (x ∷ xs) hit;
    }

pub none_taken : {T : Type 0} (rank : T → ℕ) (n : ℕ) (old : List T) → IdsRise rank old
    → ((x : T) (xs : List T) → rows_from rank n old ≡ x ∷ xs → rank x ≡ n → ⊥)
    → IsTaken rank n old None (rows_from rank n old)
none_taken {T} rank n old rise none =
    record {
      is = row_first rank n old rise ∙ (at (rows_from rank n old) none).0;
      left = rest_first rank n old rise ∙ (at (rows_from rank n old) none).1;
    }
  where
    at : (rows : List T) → ((x : T) (xs : List T) → rows ≡ x ∷ xs → rank x ≡ n → ⊥)
        → (head_at rank n rows ≡ None) × (behind rank n rows ≡ rows)
    at [] f = (refl, refl)
    at (x ∷ xs) f =
        either_way (rank x == n) (λ hit. absurd (f x xs refl (grind (arith, nat_tests)))) (λ off. rw off (refl, refl))

-- one more row
pub remade_more : {K T : Type 0} (key_rank : K → ℕ) (rank : T → ℕ) (made : K → Option T → T) (old : List T)
    (keys : List K) (i : ℕ) (k : K) (r : T) → i < length keys → k ≡ get_or keys i k
    → r ≡ made k (row_at rank (key_rank k) old)
    → remade key_rank rank made old (take i keys) ++ r ∷ [] ≡ remade key_rank rank made old (take (i + 1) keys)
remade_more {K} {T} key_rank rank made old keys i k r low is row =
    let row_of : K → T = λ x. made x (row_at rank (key_rank x) old) in
    ap (λ x. map row_of (take i keys) ++ x ∷ []) (row ∙ ap row_of is)
    ∙ sym (map-append row_of (take i keys) (get_or keys i k ∷ []))
    ∙ ap (map row_of) (sym (take_more keys i k low))
