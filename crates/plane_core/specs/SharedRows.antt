-- Rows that are shared.
use Rattle.std.specs.Prelude.{List, [], Option, None, Some}
use Rattle.std.specs.declared.sync.Arc.{Arc}
use Rattle.std.specs.Arc.{arc_value}
use Rattle.std.specs.declared.alloc.Global.{Global}
use Rattle.plane_core.specs.declared.row.SquareRow.{SquareRow}

-- the rows, of which there are none where there is no list
abbrev pub rows_in : Option (Arc (List SquareRow) Global) → List SquareRow
rows_in None = []
rows_in (Some rows) = arc_value rows
