-- The permutations of a list are exactly its orders.
use Rattle.table_symmetry.proofs.Names.{Bool, List, PermuteTakesAllOrders, [], ap, arith, bytes_decides, cases_eq, drop, false, get_or-map-range_with_len, inl, inr, insertions, is_among, is_order, length, length-map-range_with_len}
use Rattle.table_symmetry.proofs.Names.{list_all, list_any_at, nat_eq, nat_tests, not, permutations, refl, suc, sym, take, true, zero, ℕ, ◌&&◌, ◌++◌, ◌+◌, ◌||◌, ◌∷◌, ◌≡◌, ◌≤◌}
use Rattle.std.specs.Str.{bytes_eq}
use Rattle.table_lines.specs.Neighborhood.{places_of}
use Rattle.table_lines.specs.States.{has}
use Rattle.table_symmetry.proofs.Arrangements.{each_permutation, length-inserted}
use Rattle.table_symmetry.proofs.Distinct.{any_flat_map}

-- what stands in a list with one more
has-inserted : (x z i : ℕ) (xs : List ℕ) → has (take i xs ++ x ∷ drop i xs) z ≡ (nat_eq z x || has xs z)
has-inserted x z zero xs = refl
has-inserted x z (suc i) [] = refl
has-inserted x z (suc i) (y ∷ xs) = grind (arith, has-inserted x z i xs)

all_have-inserted : (x i : ℕ) (xs ys : List ℕ) → list_all (has ys) xs ≡ true → list_all (has (take i ys ++ x ∷ drop i ys)) xs ≡ true
all_have-inserted x i [] ys h = refl
all_have-inserted x i (y ∷ xs) ys h = grind (arith, has-inserted x y i ys, all_have-inserted x i xs ys)

-- all but that one stand in it without it
all_have-others : (x i : ℕ) (xs ys : List ℕ) → has xs x ≡ false → list_all (has (take i ys ++ x ∷ drop i ys)) xs ≡ true → list_all (has ys) xs ≡ true
all_have-others x i [] ys apart h = refl
all_have-others x i (y ∷ xs) ys apart h = grind (arith, nat_tests, has-inserted x y i ys, all_have-others x i xs ys)

-- a list without one of its elements, and the place where that stands
without_one : (x : ℕ) (ys : List ℕ) → has ys x ≡ true → (i : ℕ) × (zs : List ℕ) × (i ≤ length zs) × (ys ≡ take i zs ++ x ∷ drop i zs)
without_one x [] h = absurd cc
without_one x (y ∷ ys) h = elim (cases_eq x y) [
  | inl same ↦ (0, ys, omega arith, ap (λ z. z ∷ ys) (sym same))
  | inr other ↦
      let found = without_one x ys (grind (arith, nat_tests)) in
      (suc found.0, y ∷ found.1, omega (arith, found.2), rw found.3)
]

inserted-among : (x i : ℕ) (zs ys : List ℕ) → i ≤ length zs → ys ≡ take i zs ++ x ∷ drop i zs → is_among (insertions x zs) ys ≡ true
inserted-among x i zs ys h e =
    let made = get_or-map-range_with_len (λ k. take k zs ++ x ∷ drop k zs) 0 (length zs + 1) i i [] (omega arith) (omega arith) in
    list_any_at (bytes_eq ys) (insertions x zs) i [] (rw length-map-range_with_len (omega arith)) (rw made ((bytes_decides ys _).1 e))

-- what holds of all lists holds of one of them
holds_of : (p : List ℕ → Bool) (lists : List (List ℕ)) (ys : List ℕ) → list_all p lists ≡ true → is_among lists ys ≡ true → p ys ≡ true
holds_of p [] ys h k = absurd cc
holds_of p (zs ∷ lists) ys h k = grind (arith, (bytes_decides ys zs).0, holds_of p lists ys)

order_of : (xs ys : List ℕ) → is_among (permutations xs) ys ≡ true → is_order xs ys ≡ true
order_of xs ys = holds_of (is_order xs) (permutations xs) ys (each_permutation is_order refl (λ x us vs i h. grind (arith, nat_tests, length-inserted x i vs, has-inserted x x i vs, all_have-inserted x i us vs)) xs)

-- no element stands twice
abbrev are_distinct : List ℕ → Bool
are_distinct [] = true
are_distinct (x ∷ xs) = not (has xs x) && are_distinct xs

among_orders : (xs ys : List ℕ) → are_distinct xs ≡ true → is_order xs ys ≡ true → is_among (permutations xs) ys ≡ true
among_orders [] [] apart h = refl
among_orders [] (y ∷ ys) apart h = grind (arith, nat_tests)
among_orders (x ∷ xs) ys apart h =
    let there : has ys x ≡ true = grind arith in
    let found = without_one x ys there in
    let zs = found.1 in
    let order : is_order xs zs ≡ true = grind (arith, nat_tests, ap length found.3, length-inserted x found.0 zs, ap (λ us. list_all (has us) xs) found.3, all_have-others x found.0 xs zs) in
    any_flat_map (bytes_eq zs) zs (λ us. (bytes_decides zs us).0) (bytes_eq ys) (insertions x) (permutations xs) (among_orders xs zs (grind arith) order) (inserted-among x found.0 zs ys found.2 found.3)

permutations-orders : (xs ys : List ℕ) → are_distinct xs ≡ true → is_among (permutations xs) ys ≡ is_order xs ys
permutations-orders xs ys apart =
    let orders = order_of xs ys in
    let among = among_orders xs ys apart in
    grind (arith, orders, among)

pub permute_orders : PermuteTakesAllOrders
permute_orders m ys = permutations-orders (places_of m) ys (grind arith)
