-- Rows by rising rank: where the row of a rank stands.
use Rattle.std.proofs.Common.{◌≡◌, ℕ, zero, suc, ◌<◌, ◌≤◌, ◌∙◌, Bool, true, false, nat_lt, List, [], ◌∷◌, length, get_or, refl, sym, ap, arith, Option, None, Some}
use Rattle.std.specs.Prelude.{◌==◌}
use Rattle.std.specs.List.{AllByRecursion}
use Rattle.std.specs.List.Sorted.{IsNonDecreasingBy}
use Rattle.std.proofs.lemmas.Bool.{cond-true, cond-false}
use Rattle.std.proofs.lemmas.Bool.Decides.{nat_tests}
use Rattle.std.proofs.lemmas.List.{get_or_default}
use Rattle.schedule.specs.Ids.{IdsRise}
use Rattle.ranked_rows.specs.Rows.{place_in, row_at}

-- a test decides
pub either_way : {A : Type 0} (b : Bool) → (b ≡ true → A) → (b ≡ false → A) → A
either_way {A} b hit miss = elim b as (λ t. b ≡ t → A) [ true ↦ hit | false ↦ miss ] refl

-- ranks rise with the places

pub above_at : {T : Type 0} (rank : T → ℕ) (n : ℕ) (rows : List T) (k : ℕ) (d : T)
    → AllByRecursion (λ r. n < rank r) rows → k < length rows → n < rank (get_or rows k d)
above_at rank n [] k d all low = absurd (omega (arith, low))
above_at rank n (r ∷ rs) zero d all low = all.0
above_at rank n (r ∷ rs) (suc k) d all low = above_at rank n rs k d all.1 (omega (arith, low))

pub rank_rises : {T : Type 0} (rank : T → ℕ) (rows : List T) (i j : ℕ) (d : T) → IdsRise rank rows → i < j
    → j < length rows → rank (get_or rows i d) < rank (get_or rows j d)
rank_rises rank [] i j d rise lt low = absurd (omega (arith, low))
rank_rises rank (r ∷ rs) i zero d rise lt low = absurd (omega (arith, lt))
rank_rises rank (r ∷ rs) zero (suc j) d rise lt low = above_at rank (rank r) rs j d rise.0 (omega (arith, low))
rank_rises rank (r ∷ rs) (suc i) (suc j) d rise lt low =
    rank_rises rank rs i j d rise.1 (omega (arith, lt)) (omega (arith, low))

pub never_falls : {T : Type 0} (rank : T → ℕ) (rows : List T) → IdsRise rank rows → IsNonDecreasingBy rank rows
never_falls rank rows rise = λ i j d le low.
    either_way (nat_lt i j)
    (λ hit. let up = rank_rises rank rows i j d rise (grind (arith, nat_tests)) low in omega (arith, up))
    (λ miss. let same : i ≡ j = grind (arith, nat_tests) in
    let one : rank (get_or rows i d) ≡ rank (get_or rows j d) = ap (λ k. rank (get_or rows k d)) same in
    omega (arith, one))

-- the place of a rank

-- it is the one that parts the ranks
pub parts : {T : Type 0} (rank : T → ℕ) (n : ℕ) (rows : List T) (k : ℕ) → k ≤ length rows
    → ((j : ℕ) (d : T) → j < k → rank (get_or rows j d) < n)
    → ((j : ℕ) (d : T) → k ≤ j → j < length rows → n ≤ rank (get_or rows j d)) → k ≡ place_in rank n rows
parts rank n [] k low before from = omega (arith, low)
parts rank n (r ∷ rs) zero low before from =
    sym (cond-false (nat_lt (rank r) n) (suc (place_in rank n rs)) 0
    (let up = from 0 r (omega arith) (omega arith) in grind (arith, nat_tests)))
parts rank n (r ∷ rs) (suc k) low before from =
    ap (λ i. suc i)
    (parts rank n rs k (omega (arith, low)) (λ j d less. before (suc j) d (omega (arith, less)))
    (λ j d more fits. from (suc j) d (omega (arith, more)) (omega (arith, fits))))
    ∙ sym (cond-true (nat_lt (rank r) n) (suc (place_in rank n rs)) 0
    (let less = before 0 r (omega arith) in grind (arith, nat_tests)))

-- a row of the rank stands there
pub place_of : {T : Type 0} (rank : T → ℕ) (n : ℕ) (rows : List T) (k : ℕ) (d : T) → IdsRise rank rows
    → k < length rows → rank (get_or rows k d) ≡ n → place_in rank n rows ≡ k
place_of rank n rows k d rise low is =
    let here : (e : _) → rank (get_or rows k e) ≡ n = λ e. ap rank (get_or_default rows k e d low) ∙ is in
    sym (parts rank n rows k (omega (arith, low))
    (λ j e less. let up = rank_rises rank rows j k e rise less low in let at = here e in omega (arith, up, at))
    (λ j e from fits. let up = never_falls rank rows rise k j e from fits in let at = here e in omega (arith, up, at)))

-- and is the row of the rank
pub row_there : {T : Type 0} (rank : T → ℕ) (n : ℕ) (rows : List T) (k : ℕ) (d : T) → IdsRise rank rows
    → k < length rows → rank (get_or rows k d) ≡ n → row_at rank n rows ≡ Some (get_or rows k d)
row_there rank n [] k d rise low is = absurd (omega (arith, low))
row_there rank n (r ∷ rs) zero d rise low is =
    cond-true (rank r == n) (Some r) (row_at rank n rs) (grind (arith, nat_tests))
row_there rank n (r ∷ rs) (suc k) d rise low is =
    cond-false (rank r == n) (Some r) (row_at rank n rs)
    (let up = above_at rank (rank r) rs k d rise.0 (omega (arith, low)) in grind (arith, nat_tests))
    ∙ row_there rank n rs k d rise.1 (omega (arith, low)) is

-- the row of a rank has it, and stands at its place
pub record Stands {T : Type 0} (rank : T → ℕ) (n : ℕ) (rows : List T) (r : T) : Type 0 where
  pub row : row_at rank n rows ≡ Some r
  pub ranked : rank r ≡ n
  pub low : place_in rank n rows < length rows
  pub is : (d : T) → get_or rows (place_in rank n rows) d ≡ r

pub stands : {T : Type 0} (rank : T → ℕ) (n : ℕ) (rows : List T) (r : T) → IdsRise rank rows
    → row_at rank n rows ≡ Some r → Stands rank n rows r
stands rank n [] r rise is = absurd cc
stands rank n (x ∷ rs) r rise is =
    either_way (rank x == n)
    (λ hit.
    let one : Some x ≡ Some r = rw hit at is in
    let same : x ≡ r = cc in
    let off : nat_lt (rank x) n ≡ false = grind (arith, nat_tests) in
    let at : place_in rank n (x ∷ rs) ≡ 0 = cond-false (nat_lt (rank x) n) (suc (place_in rank n rs)) 0 off in
    record {
      row = is;
      ranked = ap rank (sym same) ∙ (grind (arith, nat_tests));
      low = omega (arith, at);
      is = λ d. ap (λ k. get_or (x ∷ rs) k d) at ∙ same;
    })
    (λ miss.
    let f = stands rank n rs r rise.1 (rw miss at is) in
    let up = above_at rank (rank x) rs (place_in rank n rs) x rise.0 f.low in
    let named : rank (get_or rs (place_in rank n rs) x) ≡ n = ap rank (f.is x) ∙ f.ranked in
    let on : nat_lt (rank x) n ≡ true = grind (arith, nat_tests) in
    let at : place_in rank n (x ∷ rs) ≡ suc (place_in rank n rs) =
    cond-true (nat_lt (rank x) n) (suc (place_in rank n rs)) 0 on in
    let low = f.low in
    record {
      row = is;
      ranked = f.ranked;
      low = omega (arith, at, low);
      is = λ d. ap (λ k. get_or (x ∷ rs) k d) at ∙ f.is d;
    })

-- where all ranks are greater no row has it
pub none_above : {T : Type 0} (rank : T → ℕ) (m n : ℕ) (rows : List T) → AllByRecursion (λ r. m < rank r) rows → n ≤ m
    → row_at rank n rows ≡ None
none_above rank m n [] all le = refl
none_above rank m n (r ∷ rs) all le =
    cond-false (rank r == n) (Some r) (row_at rank n rs) (let up : m < rank r = all.0 in grind (arith, nat_tests))
    ∙ none_above rank m n rs all.1 le

-- nor has one where none stands at the rank's place
pub absent : {T : Type 0} (rank : T → ℕ) (n : ℕ) (rows : List T) → IdsRise rank rows
    → ((d : T) → place_in rank n rows < length rows → rank (get_or rows (place_in rank n rows) d) ≡ n → ⊥)
    → row_at rank n rows ≡ None
absent {T} rank n rows rise none = by_row (row_at rank n rows) refl
  where
    by_row : (o : Option T) → row_at rank n rows ≡ o → row_at rank n rows ≡ None
    by_row None is = is
    by_row (Some r) is = let f = stands rank n rows r rise is in absurd (none r f.low (ap rank (f.is r) ∙ f.ranked))
