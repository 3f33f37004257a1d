-- Cells as the rows of tables: x, y and the state.
use Rattle.std.specs.Prelude.{ℕ, ℤ}
use Rattle.worlds.specs.declared.cell.CellSet.{CellSet}
use Rattle.worlds.specs.World.{Place}

-- the cell that a row sets
abbrev pub set_of : ℤ × ℤ × ℕ → CellSet
set_of row = record { x = row.0; y = row.1; state = row.2 }

-- the place and the state of a row's cell
abbrev pub of_row : ℤ × ℤ × ℕ → Place × ℕ
of_row row = ((row.1, row.0), row.2)
