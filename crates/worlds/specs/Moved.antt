-- A world moved over the plane.
use Rattle.std.specs.Prelude.{◌≡◌, ℕ, ◌<◌, true, false, List, [], ◌∷◌, map, ℤ, ◌+ℤ◌, ◌-ℤ◌}
use Rattle.std.proofs.Common.{refl, sym, ap, ap₂, ◌∙◌, arith, inl, inr}
use Rattle.std.proofs.lemmas.Bool.{or_cases, or_left, or_right}
use Rattle.std.proofs.lemmas.Int.{ints}
use Rattle.std.specs.List.{list_any}
use Rattle.std.specs.FinMap as finite
use Rattle.worlds.specs.World.{World, Place, cell, same_place, cell-dead, same_world}
use Rattle.worlds.specs.Fill.{gather, cell-gather, same_is, is_same}
use Rattle.worlds.specs.Step.{step, around, offsets, nine_zeros, cell-step}

-- the world in which each cell lies dx further right and dy further down
pub moved : ℤ → ℤ → World → World
moved dx dy w =
    gather (map (λ (p : Place). (p.0 +ℤ dy, p.1 +ℤ dx)) (finite.keys w))
    (λ x y. cell w (x -ℤ dx) (y -ℤ dy))

-- a listed place is listed after the move
moved_listed : (dx dy x y : ℤ) (ks : List Place)
    → list_any (same_place (y -ℤ dy, x -ℤ dx)) ks ≡ true
    → list_any (same_place (y, x)) (map (λ (p : Place). (p.0 +ℤ dy, p.1 +ℤ dx)) ks) ≡ true
moved_listed dx dy x y [] h = cc
moved_listed dx dy x y (k ∷ ks) h =
    elim
    (or_cases (same_place (y -ℤ dy, x -ℤ dx) k) (list_any (same_place (y -ℤ dy, x -ℤ dx)) ks)
    h) [
      | inl e ↦
          let is : (y -ℤ dy, x -ℤ dx) ≡ k = same_is (y -ℤ dy, x -ℤ dx) k e in
          let row : y -ℤ dy ≡ k.0 = ap (λ (p : Place). p.0) is in
          let column : x -ℤ dx ≡ k.1 = ap (λ (p : Place). p.1) is in
          or_left _ _
          (is_same (y, x) (k.0 +ℤ dy, k.1 +ℤ dx) (omega (arith, ints)) (omega (arith, ints)))
      | inr e ↦ or_right _ _ (moved_listed dx dy x y ks e)
    ]

live_listed : (w : World) (x y : ℤ) → 0 < cell w x y
    → list_any (same_place (y, x)) (finite.keys w) ≡ true
live_listed w x y h =
    elim (list_any (same_place (y, x)) (finite.keys w)) as
    (λ b. list_any (same_place (y, x)) (finite.keys w) ≡ b → b ≡ true) [
      | true ↦ λ e. refl
      | false ↦ λ e. let dead = cell-dead w x y e in absurd (omega arith)
    ] refl

-- each state of a moved world is that of the place it came from
pub cell-moved : (dx dy : ℤ) (w : World) (x y : ℤ)
    → cell (moved dx dy w) x y ≡ cell w (x -ℤ dx) (y -ℤ dy)
unfolding moved
cell-moved dx dy w x y =
    cell-gather _ (λ x y. cell w (x -ℤ dx) (y -ℤ dy))
    (λ x y h. moved_listed dx dy x y (finite.keys w) (live_listed w (x -ℤ dx) (y -ℤ dy) h)) x y

around-moved : (dx dy : ℤ) (w : World) (x y : ℤ)
    → around (moved dx dy w) x y ≡ around w (x -ℤ dx) (y -ℤ dy)
around-moved dx dy w x y = all_moved offsets
  where
    all_moved : (os : List (ℤ × ℤ))
        → map (λ (o : ℤ × ℤ). cell (moved dx dy w) (x +ℤ o.0) (y +ℤ o.1)) os
        ≡ map (λ (o : ℤ × ℤ). cell w ((x -ℤ dx) +ℤ o.0) ((y -ℤ dy) +ℤ o.1)) os
    all_moved [] = refl
    all_moved (o ∷ os) =
        ap₂ (λ s ss. s ∷ ss)
        (cell-moved dx dy w (x +ℤ o.0) (y +ℤ o.1)
        ∙ ap₂ (cell w) (omega (arith, ints)) (omega (arith, ints))) (all_moved os)

-- a step commutes with a move
pub step-moved : (next : List ℕ → ℕ) → next nine_zeros ≡ 0 → (dx dy : ℤ) (w : World)
    → step next (moved dx dy w) ≡ moved dx dy (step next w)
step-moved next quiet dx dy w =
    same_world _ _ (λ x y.
    cell-step next quiet (moved dx dy w) x y
    ∙ ap next (around-moved dx dy w x y)
    ∙ sym (cell-step next quiet w (x -ℤ dx) (y -ℤ dy))
    ∙ sym (cell-moved dx dy (step next w) x y))
