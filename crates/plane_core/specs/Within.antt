-- The live cells of a world that lie in a box.
use Rattle.std.specs.Prelude.{◌≡◌, ℕ, ◌+◌, ◌<◌, List, All, count_by, ℤ}
use Rattle.worlds.specs.declared.cell.Bounds.{Bounds}
use Rattle.worlds.specs.declared.cell.Cell.{Cell}
use Rattle.worlds.specs.World.{World, cell, same_place}
use Rattle.worlds.specs.Range.{IsInBox}
use Rattle.plane_core.specs.declared.part.Part.{Part}
use Rattle.plane_core.specs.Part.{Covers, quadrant_at}

-- a live cell of the world, with its state, in the box
pub record IsLiveWithin (b : Bounds) (w : World) (c : Cell) : Type 0 where
  pub inside : IsInBox b c.x c.y
  pub live : 0 < c.state
  pub state : cell w c.x c.y ≡ c.state

-- how many of the cells are at (x, y)
abbrev pub count_at : ℤ → ℤ → List Cell → ℕ
count_at x y cells = count_by (λ c. same_place (y, x) (c.y, c.x)) cells

-- the live cells of the world that lie in the box, each once
pub record AreLiveWithin (b : Bounds) (w : World) (cells : List Cell) : Type 0 where
  pub each : All (IsLiveWithin b w) cells
  pub once : (x y : ℤ) → IsInBox b x y → 0 < cell w x y → count_at x y cells ≡ 1

-- the live cells that lie in the box and at these places are added, each once
pub record Gathers (b : Bounds) (w : World) (Here : ℤ → ℤ → Type 0) (old new : List Cell)
    : Type 0 where
  pub each : All (IsLiveWithin b w) old → All (IsLiveWithin b w) new
  pub once : (x y : ℤ) → Here x y → IsInBox b x y → 0 < cell w x y
      → count_at x y new ≡ count_at x y old + 1
  pub others : (x y : ℤ) → (Here x y → ⊥) → count_at x y new ≡ count_at x y old

-- (x, y) lies in one of the first q quadrants
abbrev pub InFirst : ℕ → Part → ℤ → ℤ → Type 0
InFirst q p x y = Covers p x y × (quadrant_at p x y < q)
