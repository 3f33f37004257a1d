-- How far activity comes.
use Rattle.step_engine.proofs.Names.{Bounds, BoxLiesWithin, IsBoundingBox, LiesWithin, List, World, arith, blank, cell, cell-blank, inl, inr, ints, nine_zeros, step, suc, zero, ℕ, ◌+ℤ◌, ◌+◌, ◌<◌, ◌≡◌, ◌≤◌}
use Rattle.worlds.specs.Iterate.{iterate}
use Rattle.worlds.proofs.Shared.Local.{cell-step-none}
use Rattle.plane_core.proofs.Shared.Cells.{in_or_out}

LiesWithin-step : (far : ℕ) (next : List ℕ → ℕ) (w : World) → next nine_zeros ≡ 0 → LiesWithin far w → LiesWithin (suc far) (step next w)
LiesWithin-step far next w quiet h x y live = elim (in_or_out (suc far + suc far) _ _ x y) [
  | inl within ↦ within
  | inr out ↦
      let none = cell-step-none next quiet w x y (λ dx dy near.
      let dead : 0 < cell w (x +ℤ dx) (y +ℤ dy) → ⊥ = λ l. let at = h _ _ l in out (omega (arith, ints)) in omega (arith, dead)) in
      absurd (omega (arith, none, live))
]

-- what lies within some way lies within a longer one
pub LiesWithin-more : (m n : ℕ) (w : World) → m ≤ n → LiesWithin m w → LiesWithin n w
LiesWithin-more m n w le h x y live = let at = h x y live in omega (arith, ints)

-- activity comes at most one cell further in a generation
pub LiesWithin-iterate : (n far : ℕ) (next : List ℕ → ℕ) (w : World) → next nine_zeros ≡ 0 → LiesWithin far w → LiesWithin (n + far) (iterate n (step next) w)
unfolding iterate
LiesWithin-iterate zero far next w quiet h = LiesWithin-more far (0 + far) w (omega arith) h
LiesWithin-iterate (suc n) far next w quiet h =
    LiesWithin-more (suc (n + far)) (suc n + far) _ (omega arith) (LiesWithin-step (n + far) next (iterate n (step next) w) quiet (LiesWithin-iterate n far next w quiet h))

-- the live cells lie where their bounding box lies
pub LiesWithin-box : (far : ℕ) (b : Bounds) (w : World) → IsBoundingBox b w → BoxLiesWithin far b → LiesWithin far w
LiesWithin-box far b w box h x y live = let at = box.holds x y live in omega (arith, ints)

pub LiesWithin-blank : (far : ℕ) (w : World) → w ≡ blank → LiesWithin far w
LiesWithin-blank far w is x y live = grind (arith, cell-blank)

-- a box whose edges touch live cells lies where these do
pub box-LiesWithin : (far : ℕ) (b : Bounds) (w : World) → IsBoundingBox b w → LiesWithin far w → BoxLiesWithin far b
box-LiesWithin far b w box h =
    let left = h b.left box.touched_left.0 box.touched_left.1 in
    let right = h b.right box.touched_right.0 box.touched_right.1 in
    let top = h box.touched_top.0 b.top box.touched_top.1 in
    let bottom = h box.touched_bottom.0 b.bottom box.touched_bottom.1 in
    omega (arith, ints)
