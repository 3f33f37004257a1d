-- Where the live cells of a world lie, and which states they have.
use Rattle.std.specs.Prelude.{◌≡◌, ℕ, ◌+◌, ◌<◌, ◌^◌, ℤ, pos, neg_ℤ, ◌+ℤ◌, ◌-ℤ◌, ◌≤ℤ◌, ◌<ℤ◌}
use Rattle.std.proofs.Common.{arith}
use Rattle.worlds.specs.World.{World, cell}
use Rattle.worlds.specs.declared.cell.Bounds.{Bounds}
use Rattle.worlds.specs.declared.cell.CellSet.{CellSet}

-- (x, y) lies in the range of planes, from -2^61 up to 2^61, at least `margin` cells from its edges
pub record IsInside (margin : ℕ) (x y : ℤ) : Type 0 where
  pub left : neg_ℤ (pos (2 ^ 61)) ≤ℤ (x -ℤ pos margin)
  pub right : (x +ℤ pos margin) <ℤ pos (2 ^ 61)
  pub top : neg_ℤ (pos (2 ^ 61)) ≤ℤ (y -ℤ pos margin)
  pub bottom : (y +ℤ pos margin) <ℤ pos (2 ^ 61)

-- a cell that a plane can have: in the range of planes, with a state below 256
abbrev pub CanBeLaid : CellSet → Type 0
CanBeLaid c = IsInside 0 c.x c.y × (c.state < 256)

-- each live cell lies so
abbrev pub HasMargin : ℕ → World → Type 0
HasMargin margin w = (x y : ℤ) → 0 < cell w x y → IsInside margin x y

-- each state is below n
abbrev pub AllBelow : ℕ → World → Type 0
AllBelow n w = (x y : ℤ) → cell w x y < n

-- s is the greatest state; a world with no live cell has the greatest state 0
pub record IsGreatest (w : World) (s : ℕ) : Type 0 where
  pub least : (n : ℕ) → AllBelow n w → s < n
  pub above : AllBelow (s + 1) w

-- (x, y) lies in the box, its edges included
pub record IsInBox (b : Bounds) (x y : ℤ) : Type 0 where
  pub left : b.left ≤ℤ x
  pub right : x ≤ℤ b.right
  pub top : b.top ≤ℤ y
  pub bottom : y ≤ℤ b.bottom

-- each live cell lies in the box
abbrev pub Holds : Bounds → World → Type 0
Holds b w = (x y : ℤ) → 0 < cell w x y → IsInBox b x y

-- the least box that holds the live cells: each edge touches one
pub record IsBoundingBox (b : Bounds) (w : World) : Type 0 where
  pub holds : Holds b w
  pub touched_left : (y : ℤ) × (0 < cell w b.left y)
  pub touched_right : (y : ℤ) × (0 < cell w b.right y)
  pub touched_top : (x : ℤ) × (0 < cell w x b.top)
  pub touched_bottom : (x : ℤ) × (0 < cell w x b.bottom)

-- a cell outside the range of planes isn't live, where none is
pub cell-outside : (w : World) (x y : ℤ) → HasMargin 0 w → (IsInside 0 x y → ⊥) → cell w x y ≡ 0
cell-outside w x y inside out =
    let dead : 0 < cell w x y → ⊥ = λ live. out (inside x y live) in omega (arith, dead)
