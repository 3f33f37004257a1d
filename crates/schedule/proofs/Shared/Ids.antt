-- What changes of lists keep of their elements and ids.
use Rattle.schedule.proofs.Names.{All-from_recursion, All-get_or, AllByRecursion, Bool, IdsRise, List, None, Some, [], all_append, all_so, arith, changed_at, cond, count_by-le-length, false, filter, find, get_or, if◌then◌else◌, length}
use Rattle.schedule.proofs.Names.{length-filter, list_any, map, nat_tests, option_map, or_parts, position, refl, subst, suc, sym, true, zero, ℕ, ◌++◌, ◌+◌, ◌<◌, ◌==◌, ◌∷◌, ◌≡◌, ◌≤◌}
use Rattle.std.proofs.Math.ListN.{set}
use Rattle.std.proofs.lemmas.List.Quantifiers.{position-Some}

-- an element with a greater id at the end
pub rise_push : {X : Type 0} (id : X → ℕ) (xs : List X) (x : X) (last : ℕ) → IdsRise id xs
    → AllByRecursion (λ y. id y ≤ last) xs → last < id x → IdsRise id (xs ++ x ∷ [])
rise_push id [] x last rise given above = (tt, tt)
rise_push id (y ∷ xs) x last rise given above = (
  all_append (λ z. id y < id z) xs (x ∷ []) rise.0
      ((let k : id y ≤ last = given.0 in omega (arith, k, above)), tt),
  rise_push id xs x last rise.1 given.1 above,
)

pub given_push : {X : Type 0} (id : X → ℕ) (xs : List X) (x : X) (last : ℕ) → AllByRecursion (λ y. id y ≤ last) xs
    → id x ≡ last + 1 → AllByRecursion (λ y. id y ≤ last + 1) (xs ++ x ∷ [])
given_push id xs x last given next = all_append (λ y. id y ≤ last + 1) xs (x ∷ [])
    (all_so (λ y. id y ≤ last) (λ y. id y ≤ last + 1) xs (λ y k. omega (arith, k)) given) (omega (arith, next), tt)

either : {X : Type 0} (P : X → Type 0) (b : Bool) (x y : X) → P x → P y → P (if b then y else x)
either P true x y h k = k
either P false x y h k = h

-- some elements changed
pub each_map : {X : Type 0} (P : X → Type 0) (c : X → Bool) (f : X → X) (xs : List X) → ((x : X) → P x → P (f x))
    → AllByRecursion P xs → AllByRecursion P (map (λ x. if c x then f x else x) xs)
each_map P c f [] k h = tt
each_map P c f (x ∷ xs) k h = (either P (c x) x (f x) h.0 (k x h.0), each_map P c f xs k h.1)

pub rise_map : {X : Type 0} (id : X → ℕ) (c : X → Bool) (f : X → X) (xs : List X) → ((x : X) → id (f x) ≡ id x)
    → IdsRise id xs → IdsRise id (map (λ x. if c x then f x else x) xs)
rise_map id c f [] same h = tt
rise_map id c f (x ∷ xs) same h =
    let rest = each_map (λ y. id x < id y) c f xs (λ y k. subst (λ n. id x < n) (sym (same y)) k) h.0 in (
      subst (λ n. AllByRecursion (λ y. n < id y) (map (λ y. if c y then f y else y) xs))
          (sym (either (λ y. id y ≡ id x) (c x) x (f x) refl (same x))) rest,
      rise_map id c f xs same h.1,
    )

-- some elements left out
pub each_filter : {X : Type 0} (P : X → Type 0) (c : X → Bool) (xs : List X) → AllByRecursion P xs
    → AllByRecursion P (filter c xs)
each_filter P c [] h = tt
each_filter P c (x ∷ xs) h = grind (arith, each_filter P c xs h.1)

pub rise_filter : {X : Type 0} (id : X → ℕ) (c : X → Bool) (xs : List X) → IdsRise id xs → IdsRise id (filter c xs)
rise_filter id c [] h = tt
rise_filter id c (x ∷ xs) h = grind (arith, each_filter (λ y. id x < id y) c xs h.0, rise_filter id c xs h.1)

pub length-filter_le : {X : Type 0} (c : X → Bool) (xs : List X) → length (filter c xs) ≤ length xs
length-filter_le c xs = omega (arith, length-filter c xs, count_by-le-length c xs)

-- the element of an id, changed at its place
same_above : {X : Type 0} (id : X → ℕ) (f : X → X) (xs : List X) (n : ℕ) → AllByRecursion (λ y. n < id y) xs
    → changed_at id f xs n ≡ xs
same_above id f [] n h = refl
same_above id f (x ∷ xs) n h = grind (arith, nat_tests, same_above id f xs n h.1)

changed_at-set : {X : Type 0} (id : X → ℕ) (f : X → X) (xs : List X) (k n : ℕ) (d : X) → IdsRise id xs → k < length xs
    → id (get_or xs k d) ≡ n → set xs k (f (get_or xs k d)) ≡ changed_at id f xs n
changed_at-set id f [] k n d rise low is = absurd (omega (arith, low))
changed_at-set id f (x ∷ xs) zero n d rise low is = grind (arith, nat_tests, same_above id f xs (id x) rise.0)
changed_at-set id f (x ∷ xs) (suc k) n d rise low is =
    let above = All-get_or (λ y. id x < id y) xs k d (omega (arith, low))
    (All-from_recursion (λ y. id x < id y) xs rise.0) in
    let rest = changed_at-set id f xs k n d rise.1 (omega (arith, low)) is in
    grind (arith, nat_tests, above, rest)

pub changed_at-Some : {X : Type 0} (id : X → ℕ) (f : X → X) (xs : List X) (k n : ℕ) (d : X) → IdsRise id xs
    → position (λ x. id x == n) xs ≡ Some k → set xs k (f (get_or xs k d)) ≡ changed_at id f xs n
changed_at-Some id f xs k n d rise found =
    let at = position-Some (λ x. id x == n) xs k d found in
    changed_at-set id f xs k n d rise at.0 (let same : (id (get_or xs k d) == n) ≡ true = at.1 in
    grind (arith, nat_tests))

-- where no element has the id
pub changed_at-None : {X : Type 0} (id : X → ℕ) (f : X → X) (xs : List X) (n : ℕ)
    → position (λ x. id x == n) xs ≡ None → xs ≡ changed_at id f xs n
changed_at-None id f [] n none = refl
changed_at-None id f (x ∷ xs) n none = grind (arith, changed_at-None id f xs n)

-- where the element of an id is given another generation, each still stands where it may
pub placed_at : {X : Type 0} (id branch generation : X → ℕ) (P : ℕ → ℕ → Type 0) (f : X → X) (xs : List X) (n g : ℕ)
    → ((x : X) → branch (f x) ≡ branch x) → ((x : X) → generation (f x) ≡ g) → IdsRise id xs
    → AllByRecursion (λ x. P (branch x) (generation x)) xs
    → ((m : ℕ) → option_map branch (find (λ x. id x == n) xs) ≡ Some m → (k : ℕ) → P m k → P m g)
    → AllByRecursion (λ x. P (branch x) (generation x)) (changed_at id f xs n)
placed_at id branch generation P f [] n g stays at rise all moves = tt
placed_at id branch generation P f (x ∷ xs) n g stays at rise all moves =
    elim (id x == n)
    as (λ t. id x == n ≡ t → ((m : ℕ) → option_map branch (cond t (Some x) (find (λ y. id y == n) xs)) ≡ Some m
    → (k : ℕ) → P m k → P m g) → AllByRecursion (λ y. P (branch y) (generation y))
    ((if t then f x else x) ∷ changed_at id f xs n)) [
      | true ↦ λ e moves. (
        rw (stays x, at x) (moves (branch x) refl (generation x) all.0),
        rw (same_above id f xs n (let is : id x ≡ n = grind (arith, nat_tests) in rw (sym is) rise.0)) all.1,
      )
      | false ↦ λ e moves. (all.0, placed_at id branch generation P f xs n g stays at rise.1 all.1 moves)
    ] refl moves

-- what holds of each element, where none names this branch
pub all_unnamed : {X : Type 0} (branch : X → ℕ) (P Q : X → Type 0) (xs : List X) (n : ℕ)
    → ((x : X) → (branch x == n) ≡ false → P x → Q x) → list_any (λ x. branch x == n) xs ≡ false → AllByRecursion P xs
    → AllByRecursion Q xs
all_unnamed branch P Q [] n so none all = tt
all_unnamed branch P Q (x ∷ xs) n so none all =
    let parts = or_parts (branch x == n) _ none in (so x parts.0 all.0, all_unnamed branch P Q xs n so parts.1 all.1)
