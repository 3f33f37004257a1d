-- After n generations a cell depends on the cells at most n away, wherever the pattern lies.
use Rattle.std.proofs.Common.{◌≡◌, ℕ, zero, suc, ◌+◌, List, [], ◌∷◌, map, ap, ◌∙◌, refl, sym, arith, ℤ, pos, ◌+ℤ◌}
use Rattle.std.specs.List.{AllByRecursion}
use Rattle.std.proofs.lemmas.Int.{ints}
use Rattle.worlds.specs.World.{World, cell}
use Rattle.worlds.specs.Step.{offsets, step, nine_zeros, cell-step}
use Rattle.worlds.specs.Iterate.{iterate}
use Rattle.worlds.specs.Near.{IsNear, AgreeNear, NoneNear}
use Rattle.worlds.proofs.Shared.Cells.{same_cell}

-- the same one cell further on
closer : (n : ℕ) (v : World) (x y : ℤ) (w : World) (a b : ℤ) (ex ey : ℤ) → IsNear 1 ex ey → AgreeNear (suc n) v x y w a b → AgreeNear n v (x +ℤ ex) (y +ℤ ey) w (a +ℤ ex) (b +ℤ ey)
closer n v x y w a b ex ey near h dx dy far =
    same_cell v _ _ (x +ℤ (ex +ℤ dx)) (y +ℤ (ey +ℤ dy)) (omega (arith, ints)) (omega (arith, ints))
    ∙ h (ex +ℤ dx) (ey +ℤ dy) (record { left = omega (arith, ints); right = omega (arith, ints); top = omega (arith, ints); bottom = omega (arith, ints) })
    ∙ same_cell w _ _ _ _ (omega (arith, ints)) (omega (arith, ints))

-- the place itself and its eight neighbours are near it
near_offsets : AllByRecursion (λ (o : ℤ × ℤ). IsNear 1 o.0 o.1) offsets
near_offsets = grind (arith, ints)

-- the states at the offsets, by what is near
same_around : (f g : ℤ → ℤ → ℕ) → ((dx dy : ℤ) → IsNear 1 dx dy → f dx dy ≡ g dx dy) → map (λ (o : ℤ × ℤ). f o.0 o.1) offsets ≡ map (λ (o : ℤ × ℤ). g o.0 o.1) offsets
same_around f g h = all_same offsets near_offsets
  where
    all_same : (os : List (ℤ × ℤ)) → AllByRecursion (λ (o : ℤ × ℤ). IsNear 1 o.0 o.1) os → map (λ (o : ℤ × ℤ). f o.0 o.1) os ≡ map (λ (o : ℤ × ℤ). g o.0 o.1) os
    all_same [] near = refl
    all_same (o ∷ os) near = λ i. h o.0 o.1 near.0 i ∷ all_same os near.1 i

-- what HashLife rests on: a cell n generations on, by the cells at most n away
pub cell-iterate : (next : List ℕ → ℕ) → next nine_zeros ≡ 0 → (n : ℕ) (v : World) (x y : ℤ) (w : World) (a b : ℤ) → AgreeNear n v x y w a b
    → cell (iterate n (step next) v) x y ≡ cell (iterate n (step next) w) a b
unfolding iterate
cell-iterate next quiet zero v x y w a b h =
    same_cell v _ _ (x +ℤ pos 0) (y +ℤ pos 0) (omega (arith, ints)) (omega (arith, ints))
    ∙ h (pos 0) (pos 0) (record { left = omega (arith, ints); right = omega (arith, ints); top = omega (arith, ints); bottom = omega (arith, ints) })
    ∙ same_cell w _ _ _ _ (omega (arith, ints)) (omega (arith, ints))
cell-iterate next quiet (suc n) v x y w a b h =
    cell-step next quiet (iterate n (step next) v) x y
    ∙ ap next (same_around _ _ (λ ex ey near. cell-iterate next quiet n v _ _ w _ _ (closer n v x y w a b ex ey near h)))
    ∙ sym (cell-step next quiet (iterate n (step next) w) a b)

-- activity spreads at most one cell a generation
pub cell-step-none : (next : List ℕ → ℕ) → next nine_zeros ≡ 0 → (w : World) (x y : ℤ) → NoneNear 1 w x y → cell (step next w) x y ≡ 0
cell-step-none next quiet w x y h = cell-step next quiet w x y ∙ ap next (same_around _ (λ _ _. 0) h) ∙ quiet
