-- How far the live cells of a world lie from the origin.
use Rattle.std.specs.Prelude.{ℕ, ◌+◌, ◌-◌, ◌^◌, ◌<◌, ◌≤◌, pos, neg_ℤ, ℤ, ◌≤ℤ◌, ◌<ℤ◌}
use Rattle.worlds.specs.declared.cell.Bounds.{Bounds}
use Rattle.worlds.specs.World.{World, cell}
use Rattle.worlds.specs.Square.{IsIn}

-- each live cell lies in the square from -far up to far
abbrev pub LiesWithin : ℕ → World → Type 0
LiesWithin far w = (x y : ℤ) → 0 < cell w x y →
    IsIn (far + far) (neg_ℤ (pos far)) (neg_ℤ (pos far)) x y

-- the box lies in that square
pub record BoxLiesWithin (far : ℕ) (b : Bounds) : Type 0 where
  pub left : neg_ℤ (pos far) ≤ℤ b.left
  pub right : b.right <ℤ pos far
  pub top : neg_ℤ (pos far) ≤ℤ b.top
  pub bottom : b.bottom <ℤ pos far

-- with so many cells more to each side the live cells lie from -2^k up to 2^k
pub record HasRoomFor (generations k : ℕ) (w : World) : Type 0 where
  pub few : generations ≤ 2 ^ k
  pub within : LiesWithin (2 ^ k - generations) w

-- k is the least with so much room, and one of a plane's
pub record IsRoomLevel (generations : ℕ) (w : World) (k : ℕ) : Type 0 where
  pub few : k ≤ 61
  pub room : HasRoomFor generations k w
  pub least : (j : ℕ) → HasRoomFor generations j w → k ≤ j
