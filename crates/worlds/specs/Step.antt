-- One generation: each cell's next state is a function of the nine states at and around it.
use Rattle.std.specs.Prelude.{◌≡◌, ℕ, Bool, true, false, cond, ◌<◌, List, [], ◌∷◌, length, map, All, ℤ, pos, negsuc, ◌+ℤ◌, get_or}
use Rattle.std.proofs.Common.{refl, sym, ap, ◌∙◌, subst, arith, lit<, inl, inr}
use Rattle.std.proofs.lemmas.Bool.{or_cases, or_left, or_right}
use Rattle.std.proofs.lemmas.Int.{ints}
use Rattle.std.specs.List.{list_any, flat_map}
use Rattle.std.specs.FinMap as finite
use Rattle.std.specs.Map.{keys_of}
use Rattle.std.proofs.lemmas.List.Folds.{list_any-append, list_any_at}
use Rattle.worlds.specs.World.{World, Place, cell, blank, cell-blank, cell-dead, same_place, entries-blank}
use Rattle.worlds.specs.Fill.{fill, fill-none, cell-fill, same_is, is_same}

-- how far to the right and below the places of C, N, NE, E, SE, S, SW, W and NW lie from C
abbrev pub offsets : List (ℤ × ℤ)
offsets =
    (pos 0, pos 0)
    ∷ (pos 0, negsuc 0)
    ∷ (pos 1, negsuc 0)
    ∷ (pos 1, pos 0)
    ∷ (pos 1, pos 1)
    ∷ (pos 0, pos 1)
    ∷ (negsuc 0, pos 1)
    ∷ (negsuc 0, pos 0)
    ∷ (negsuc 0, negsuc 0)
    ∷ []

-- the states at and around (x, y), in that order
abbrev pub around : World → ℤ → ℤ → List ℕ
around w x y = map (λ (o : ℤ × ℤ). cell w (x +ℤ o.0) (y +ℤ o.1)) offsets

-- the states around a cell in an empty part of the plane
abbrev pub nine_zeros : List ℕ
nine_zeros = 0 ∷ 0 ∷ 0 ∷ 0 ∷ 0 ∷ 0 ∷ 0 ∷ 0 ∷ 0 ∷ []

-- nine states, each below n
pub record AreNineBelow (n : ℕ) (states : List ℕ) : Type 0 where
  pub nine : length states ≡ 9
  pub below : All (λ s. s < n) states

-- the places at and around one
abbrev pub places_around : Place → List Place
places_around p = map (λ (o : ℤ × ℤ). (p.0 +ℤ o.1, p.1 +ℤ o.0)) offsets

-- the places that have a live cell at or around them
pub near_live : World → List Place
near_live w = flat_map places_around (finite.keys w)

-- the next generation: at each place near a live cell the next of the nine states, 0 elsewhere
pub step : (List ℕ → ℕ) → World → World
step next w = fill (near_live w) (λ x y. next (around w x y)) blank

-- what is around a listed place is among what is around all of them
around_listed : (p q : Place) (ks : List Place) → list_any (same_place q) ks ≡ true
    → list_any (same_place p) (places_around q) ≡ true
    → list_any (same_place p) (flat_map places_around ks) ≡ true
around_listed p q [] h t = cc
around_listed p q (k ∷ ks) h t =
    list_any-append (same_place p) (places_around k) (flat_map places_around ks)
    ∙ elim (or_cases (same_place q k) (list_any (same_place q) ks) h) [
      | inl e ↦ or_left _ _
          (subst (λ r. list_any (same_place p) (places_around r) ≡ true) (same_is q k e) t)
      | inr e ↦ or_right _ _ (around_listed p q ks e t)
    ]

-- a place that isn't near a live cell has no live cell around it
far : (w : World) (p q : Place) → list_any (same_place p) (near_live w) ≡ false
    → list_any (same_place p) (places_around q) ≡ true → cell w q.1 q.0 ≡ 0
unfolding near_live
far w p q h t =
    elim (list_any (same_place q) (finite.keys w)) as
    (λ b. list_any (same_place q) (finite.keys w) ≡ b → cell w q.1 q.0 ≡ 0) [
      | true ↦ λ e. let near = around_listed p q (finite.keys w) e t in cc
      | false ↦ λ e. cell-dead w q.1 q.0 e
    ] refl

-- q is dead where p isn't near a live cell and is the i-th place around q
far_at : (w : World) (p q : Place) (i : ℕ) → list_any (same_place p) (near_live w) ≡ false → i < 9
    → p.0 ≡ (get_or (places_around q) i p).0 → p.1 ≡ (get_or (places_around q) i p).1
    → cell w q.1 q.0 ≡ 0
far_at w p q i h l e f =
    far w p q h (list_any_at (same_place p) (places_around q) i p l (is_same p _ e f))

-- the cell at an offset from a place that isn't near a live cell; the offset's opposite is the i-th
far_off : (w : World) (x y : ℤ) (i : ℕ) (o : ℤ × ℤ)
    → list_any (same_place (y, x)) (near_live w) ≡ false → i < 9
    → y ≡ (get_or (places_around (y +ℤ o.1, x +ℤ o.0)) i (y, x)).0
    → x ≡ (get_or (places_around (y +ℤ o.1, x +ℤ o.0)) i (y, x)).1
    → cell w (x +ℤ o.0) (y +ℤ o.1) ≡ 0
far_off w x y i o h l e f = far_at w (y, x) (y +ℤ o.1, x +ℤ o.0) i h l e f

far_around : (w : World) (x y : ℤ) → list_any (same_place (y, x)) (near_live w) ≡ false
    → around w x y ≡ nine_zeros
far_around w x y h =
    let c = far_off w x y 0 (pos 0, pos 0) h (lit< tt)
    (omega (arith, ints)) (omega (arith, ints)) in
    let n = far_off w x y 5 (pos 0, negsuc 0) h (lit< tt)
    (omega (arith, ints)) (omega (arith, ints)) in
    let ne = far_off w x y 6 (pos 1, negsuc 0) h (lit< tt)
    (omega (arith, ints)) (omega (arith, ints)) in
    let e = far_off w x y 7 (pos 1, pos 0) h (lit< tt)
    (omega (arith, ints)) (omega (arith, ints)) in
    let se = far_off w x y 8 (pos 1, pos 1) h (lit< tt)
    (omega (arith, ints)) (omega (arith, ints)) in
    let s = far_off w x y 1 (pos 0, pos 1) h (lit< tt)
    (omega (arith, ints)) (omega (arith, ints)) in
    let sw = far_off w x y 2 (negsuc 0, pos 1) h (lit< tt)
    (omega (arith, ints)) (omega (arith, ints)) in
    let v = far_off w x y 3 (negsuc 0, pos 0) h (lit< tt)
    (omega (arith, ints)) (omega (arith, ints)) in
    let nw = far_off w x y 4 (negsuc 0, negsuc 0) h (lit< tt)
    (omega (arith, ints)) (omega (arith, ints)) in
    λ i. c i ∷ n i ∷ ne i ∷ e i ∷ se i ∷ s i ∷ sw i ∷ v i ∷ nw i ∷ []

by_listed : (b : Bool) (s : ℕ) → (b ≡ false → s ≡ 0) → cond b s 0 ≡ s
by_listed true s h = refl
by_listed false s h = sym (h refl)

-- each cell after a step is the next of the nine
pub cell-step : (next : List ℕ → ℕ) → next nine_zeros ≡ 0 → (w : World) (x y : ℤ)
    → cell (step next w) x y ≡ next (around w x y)
unfolding step
cell-step next quiet w x y =
    cell-fill (near_live w) (λ x y. next (around w x y)) blank x y
    ∙ ap (cond (list_any (same_place (y, x)) (near_live w)) (next (around w x y))) (cell-blank x y)
    ∙ by_listed _ _ (λ far_off. ap next (far_around w x y far_off) ∙ quiet)

-- `step`, by the places of the live cells
pub step-fill : (next : List ℕ → ℕ) (w : World)
    → step next w ≡ fill (flat_map places_around (finite.keys w)) (λ x y. next (around w x y)) blank
unfolding step near_live
step-fill next w = refl

-- an empty world stays empty
pub step-blank : (next : List ℕ → ℕ) → step next blank ≡ blank
step-blank next =
    step-fill next blank
    ∙ ap
    (λ (es : List (Place × ℕ)). fill (flat_map places_around (keys_of es))
    (λ x y. next (around blank x y)) blank) entries-blank
    ∙ fill-none (λ x y. next (around blank x y)) blank
