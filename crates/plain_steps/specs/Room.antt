-- Room around a cell.
use Rattle.std.specs.Prelude.{ℕ, ℤ, pos, ◌+ℤ◌, ◌-ℤ◌}
use Rattle.square_tree.specs.Cells.{IsHeld}
use Rattle.worlds.specs.declared.cell.CellSet.{CellSet}

-- (x, y) and the eight places around it lie in the square of the level
pub record HasRoomAround (level : ℕ) (x y : ℤ) : Type 0 where
  pub corner : IsHeld level (x -ℤ pos 1) (y -ℤ pos 1)
  pub opposite : IsHeld level (x +ℤ pos 1) (y +ℤ pos 1)

-- so does the cell with those around it
abbrev pub CellHasRoom : ℕ → CellSet → Type 0
CellHasRoom level c = HasRoomAround level c.x c.y
