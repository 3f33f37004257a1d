-- The live cells of a generation, as a list and as a patch.
use Rattle.std.specs.Prelude.{◌≡◌, ◌<◌, ℕ, ℤ, List, All, unwrap_or}
use Rattle.worlds.specs.declared.cell.CellSet.{CellSet}
use Rattle.worlds.specs.World.{cell, blank}
use Rattle.worlds.specs.Lay.{lay}
use Rattle.square_tree.specs.Cells.{Cells, IsHeld, state_at}

-- a cell that is live where f gives the states, in the square of the level
pub record IsKeptCell (level : ℕ) (f : ℤ → ℤ → ℕ) (c : CellSet) : Type 0 where
  pub live : 0 < f c.x c.y
  pub state : c.state < 256
  pub held : IsHeld level c.x c.y

-- the cells of the list are live once they are laid, and the patch says the states that this gives
pub record AreTogether (cells : List CellSet) (patch : Cells) : Type 0 where
  pub listed : All (IsKeptCell patch.level (cell (lay cells blank))) cells
  pub shown : (x y : ℤ) → unwrap_or (state_at patch x y) 0 ≡ cell (lay cells blank) x y
