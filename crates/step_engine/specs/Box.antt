-- How far a box of cells lies from the edges of the range of planes.
use Rattle.std.specs.Prelude.{ℕ, ◌^◌, pos, neg_ℤ, ◌+ℤ◌, ◌-ℤ◌, ◌≤ℤ◌, ◌<ℤ◌}
use Rattle.worlds.specs.declared.cell.Bounds.{Bounds}

-- each edge lies in the range of planes, at least `margin` cells from where that range ends
pub record BoxHasMargin (margin : ℕ) (b : Bounds) : Type 0 where
  pub left : neg_ℤ (pos (2 ^ 61)) ≤ℤ (b.left -ℤ pos margin)
  pub right : (b.right +ℤ pos margin) <ℤ pos (2 ^ 61)
  pub top : neg_ℤ (pos (2 ^ 61)) ≤ℤ (b.top -ℤ pos margin)
  pub bottom : (b.bottom +ℤ pos margin) <ℤ pos (2 ^ 61)

-- the box lies in the range of planes
pub record IsInRange (b : Bounds) : Type 0 where
  pub left : neg_ℤ (pos (2 ^ 61)) ≤ℤ b.left
  pub wide : b.left ≤ℤ b.right
  pub right : b.right <ℤ pos (2 ^ 61)
  pub top : neg_ℤ (pos (2 ^ 61)) ≤ℤ b.top
  pub high : b.top ≤ℤ b.bottom
  pub bottom : b.bottom <ℤ pos (2 ^ 61)
