-- What tables and their rules keep.
use Rattle.std.specs.Prelude.{◌≡◌, ◌≤◌, true, length}
use Rattle.table_symmetry.specs.declared.lookup.Lookup.{Lookup}
use Rattle.table_symmetry.specs.Expanded.{expanded, transition_limit}
use Rattle.table_symmetry.specs.Lookup.{IsLookupOf}
use Rattle.table_symmetry.specs.Rule.{is_sound}
use Rattle.table_symmetry.specs.Table.{Table}
use Rattle.table_lines.specs.Read.{IsRead}

-- a table that a file may have
pub record IsKeptTable (table : Table) : Type 0 where
  pub read : IsRead table
  pub sound : is_sound table ≡ true
  pub few : length (expanded table) ≤ transition_limit

-- a look-up of the expanded transitions of a table
abbrev pub LooksUp : Table → Lookup → Type 0
LooksUp table lookup = IsLookupOf (expanded table) table.states table.neighborhood lookup
