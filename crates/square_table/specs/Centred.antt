-- A square of cells as a world: its middle lies at the origin, and outside it no cell is live.
use Rattle.std.specs.Prelude.{◌≡◌, ℕ, ◌-◌, ◌<◌, ◌^◌, ℤ, pos, neg_ℤ}
use Rattle.worlds.specs.World.{World, cell}
use Rattle.worlds.specs.Range.{HasMargin}
use Rattle.worlds.specs.Square.{Square, square_at, IsIn}

-- the upper left cell, across and down, of a square of level k whose middle lies at the origin
abbrev pub edge : ℕ → ℤ
edge k = neg_ℤ (pos (2 ^ (k - 1)))

-- the square, of level k, has the cells of the world round the origin, and they are all that live
pub record IsCentred (w : World) (k : ℕ) (s : Square) : Type 0 where
  pub square : s ≡ square_at w k (edge k) (edge k)
  pub inside : (x y : ℤ) → 0 < cell w x y → IsIn (2 ^ k) (edge k) (edge k) x y

-- a square is centred on one world
abbrev pub CentredTellsWorld : Type 0
CentredTellsWorld = (v w : World) (k : ℕ) (s : Square) → IsCentred v k s → IsCentred w k s → v ≡ w

-- a world in the range of planes that has the one square in its middle has the other there
abbrev pub CentredAlike : ℕ → Square → ℕ → Square → Type 0
CentredAlike j s k t = (w : World) → HasMargin 0 w → IsCentred w j s → IsCentred w k t
