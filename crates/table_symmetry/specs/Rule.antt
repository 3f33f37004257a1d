-- Tables that a file may have.
use Rattle.std.specs.Prelude.{◌&&◌, Bool, []}
use Rattle.std.specs.List.{list_all}
use Rattle.table_lines.specs.declared.neighborhood.Neighborhood.TheVariants.{OneDimensional}
use Rattle.table_lines.specs.declared.symmetry.Symmetry.TheVariants as symmetry
use Rattle.table_symmetry.specs.Table.{Table}
use Rattle.table_symmetry.specs.NextState.{is_quiescent, gives_states}

-- a table that a file may have: it is quiescent, and whatever it gives is a state
abbrev pub is_sound : Table → Bool
is_sound table = is_quiescent table && list_all (gives_states table.states) table.transitions

-- the table in which each cell keeps its state
abbrev pub still_table : Table
still_table =
    record { states = 2; neighborhood = OneDimensional; symmetry = symmetry.None; transitions = [] }
