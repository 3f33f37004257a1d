-- Live cells as they are laid.
use Rattle.worlds.specs.declared.cell.Cell.{Cell}
use Rattle.worlds.specs.declared.cell.CellSet.{CellSet}

-- the same cell
abbrev pub as_set : Cell → CellSet
as_set c = record { x = c.x; y = c.y; state = c.state }
