-- What the map of a quadtree has at each place.
use Rattle.square_tree.proofs.Names.{HasLevel, List, None, Place, Quadtree, Some, [], ap, ap₂, arith, at, cell, cond, find, ints, keep, nat_tests, option_or, place_cmp, pos, quad, refl, same_place, sym, true, ℕ, ℤ, ◌++◌, ◌+ℤ◌, ◌-◌, ◌<ℤ◌}
use Rattle.square_tree.proofs.Names.{◌<◌, ◌^◌, ◌∙◌, ◌∷◌, ◌≡◌, ◌≤◌}
use Rattle.std.specs.Ordering.{int_cmp, is_eq}
use Rattle.std.specs.Cmp.{IsTotalOrder, int_cmp_total}
use Rattle.std.proofs.lemmas.Cmp.{on_total, then_total, tied_itself}
use Rattle.std.proofs.lemmas.Map.Lookups.{CmpEqualImpliesEq, exact_pairs, exact_signed}
use Rattle.square_tree.specs.Entries.{entries}
use Rattle.square_tree.proofs.Shared.Placed.{at_east, at_south, or_none}

-- the order of places is a total order
pub places_total : IsTotalOrder place_cmp
places_total = then_total (on_total (λ (p : Place). p.0) int_cmp_total) (on_total (λ (p : Place). p.1) int_cmp_total)

-- in which equal places are one
pub places_exact : CmpEqualImpliesEq place_cmp
places_exact = exact_pairs int_cmp int_cmp exact_signed exact_signed

-- places that are found the same are the same
pub same_is : (p q : Place) → same_place p q ≡ true → p ≡ q
same_is p q h = places_exact p q (grind (arith, h))

-- and the other way round
pub is_same : (p q : Place) → p ≡ q → same_place p q ≡ true
is_same p q e = ap (same_place p) (sym e) ∙ ap is_eq (tied_itself places_total p)

-- a look-up in one list after another
pub find-append : (p : Place) (es fs : List (Place × ℕ)) → find place_cmp p (es ++ fs) ≡ option_or (find place_cmp p es) (find place_cmp p fs)
find-append p [] fs = refl
find-append p (e ∷ es) fs = grind (arith, find-append p es fs)

apart : (p q : Place) (s : ℕ) → (p ≡ q → ⊥) → cond (same_place p q) (Some s) None ≡ None
apart p q s h = grind (arith, same_is p q)

four : (p : Place) (a b c d : List (Place × ℕ)) → find place_cmp p ((a ++ b) ++ (c ++ d)) ≡ option_or (option_or (find place_cmp p a) (find place_cmp p b)) (option_or (find place_cmp p c) (find place_cmp p d))
four p a b c d = find-append p (a ++ b) (c ++ d) ∙ ap₂ option_or (find-append p a b) (find-append p c d)

-- no entry lies to the west of the corner
pub find_west : (t : Quadtree) (l : ℕ) (x y a b : ℤ) → a <ℤ x → find place_cmp (b, a) (entries t l x y) ≡ None
unfolding entries
find_west keep l x y a b h = refl
find_west (cell s) l x y a b h = apart (b, a) (y, x) s (λ e. let f : a ≡ x = ap (λ (p : Place). p.1) e in absurd (omega (arith, ints, h, f)))
find_west (quad nw ne sw se) l x y a b h =
    let v = l - 1 in
    let m = pos (2 ^ v) in
    let far : a <ℤ (x +ℤ m) = omega (arith, ints, h) in
    let found = four (b, a) (entries nw v x y) (entries ne v (x +ℤ m) y) (entries sw v x (y +ℤ m)) (entries se v (x +ℤ m) (y +ℤ m)) in
    grind (arith, found, find_west nw v x y a b h, find_west ne v (x +ℤ m) y a b far, find_west sw v x (y +ℤ m) a b h, find_west se v (x +ℤ m) (y +ℤ m) a b far)

-- nor to the north
pub find_north : (t : Quadtree) (l : ℕ) (x y a b : ℤ) → b <ℤ y → find place_cmp (b, a) (entries t l x y) ≡ None
unfolding entries
find_north keep l x y a b h = refl
find_north (cell s) l x y a b h = apart (b, a) (y, x) s (λ e. let f : b ≡ y = ap (λ (p : Place). p.0) e in absurd (omega (arith, ints, h, f)))
find_north (quad nw ne sw se) l x y a b h =
    let v = l - 1 in
    let m = pos (2 ^ v) in
    let far : b <ℤ (y +ℤ m) = omega (arith, ints, h) in
    let found = four (b, a) (entries nw v x y) (entries ne v (x +ℤ m) y) (entries sw v x (y +ℤ m)) (entries se v (x +ℤ m) (y +ℤ m)) in
    grind (arith, found, find_north nw v x y a b h, find_north ne v (x +ℤ m) y a b h, find_north sw v x (y +ℤ m) a b far, find_north se v (x +ℤ m) (y +ℤ m) a b far)

one_place : (s u v : ℕ) (x y : ℤ) → cond (same_place (y +ℤ pos v, x +ℤ pos u) (y, x)) (Some s) None ≡ at (cell s) 0 u v
one_place s u v x y =
    let p : Place = (y +ℤ pos v, x +ℤ pos u) in
    let is : same_place p (y, x) ≡ true → (u ≡ 0) × (v ≡ 0) = λ e.
    let same = same_is p (y, x) e in
    let row = ap (λ (q : Place). q.0) same in
    let column = ap (λ (q : Place). q.1) same in
    (omega (arith, ints, column), omega (arith, ints, row)) in
    let so : u ≡ 0 → v ≡ 0 → same_place p (y, x) ≡ true = λ a b. is_same p (y, x) (ap₂ (λ c d. (c, d)) (omega (arith, ints, b)) (omega (arith, ints, a))) in
    grind (arith, nat_tests, is, so)

-- the entry of the cell in column u and row v
pub find_at : (t : Quadtree) (l : ℕ) (x y : ℤ) (u v : ℕ) → HasLevel l t → find place_cmp (y +ℤ pos v, x +ℤ pos u) (entries t l x y) ≡ at t l u v
unfolding entries
find_at keep l x y u v h = refl
find_at (cell s) l x y u v h = one_place s u v x y
find_at (quad nw ne sw se) l x y u v h =
    let n = l - 1 in
    let m = 2 ^ n in
    let e = x +ℤ pos m in
    let b = y +ℤ pos m in
    let p : Place = (y +ℤ pos v, x +ℤ pos u) in
    let found = four p (entries nw n x y) (entries ne n e y) (entries sw n x b) (entries se n e b) in
    let in_nw = find_at nw n x y u v h.1 in
    let in_ne : m ≤ u → find place_cmp p (entries ne n e y) ≡ at ne n (u - m) v = λ q.
    ap (λ z. find place_cmp (y +ℤ pos v, z) (entries ne n e y)) (omega (arith, ints, q)) ∙ find_at ne n e y (u - m) v h.2 in
    let in_sw : m ≤ v → find place_cmp p (entries sw n x b) ≡ at sw n u (v - m) = λ q.
    ap (λ z. find place_cmp (z, x +ℤ pos u) (entries sw n x b)) (omega (arith, ints, q)) ∙ find_at sw n x b u (v - m) h.3 in
    let in_se : m ≤ u → m ≤ v → find place_cmp p (entries se n e b) ≡ at se n (u - m) (v - m) = λ q r.
    ap₂ (λ z w. find place_cmp (z, w) (entries se n e b)) (omega (arith, ints, r)) (omega (arith, ints, q)) ∙ find_at se n e b (u - m) (v - m) h.4 in
    let west_ne : u < m → find place_cmp p (entries ne n e y) ≡ None = λ q. find_west ne n e y _ _ (omega (arith, ints, q)) in
    let west_se : u < m → find place_cmp p (entries se n e b) ≡ None = λ q. find_west se n e b _ _ (omega (arith, ints, q)) in
    let north_sw : v < m → find place_cmp p (entries sw n x b) ≡ None = λ q. find_north sw n x b _ _ (omega (arith, ints, q)) in
    let north_se : v < m → find place_cmp p (entries se n e b) ≡ None = λ q. find_north se n e b _ _ (omega (arith, ints, q)) in
    grind (arith, nat_tests, found, in_nw, in_ne, in_sw, in_se, west_ne, west_se, north_sw, north_se, or_none, at_east nw n u v h.1, at_south nw n u v h.1, at_south ne n (u - m) v h.2, at_east sw n u (v - m) h.3)
