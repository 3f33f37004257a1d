use Rattle.std.proofs.Common.{◌≡◌, map, take}
use Rattle.worlds.specs.Live.{of_cell}
use Rattle.test_planes.specs.Rows.{of_row}
use Rattle.test_planes.proofs.rows.rows_of.Given as goal

abbrev pub invariant-loop-cell : goal.invariant-loop-cell
invariant-loop-cell l = map of_row l.rows.items ≡ map of_cell (take l.cell-index l.cell-items)
