-- Tables that were read.
use Rattle.std.specs.Prelude.{◌≡◌, ◌≤◌, true}
use Rattle.std.specs.List.{list_all}
use Rattle.rule_file.specs.States.{least_states, most_states}
use Rattle.table_lines.specs.Below.{admits_below}
use Rattle.table_lines.specs.Table.{Table}
use Rattle.table_lines.specs.Transitions.{is_full}

-- a table of two states or more and 256 at most, whose transitions name such states and have an
-- input for the cell and each neighbour
pub record IsRead (table : Table) : Type 0 where
  pub at_least : least_states ≤ table.states
  pub at_most : table.states ≤ most_states
  pub below : list_all (admits_below table.states) table.transitions ≡ true
  pub full : list_all (is_full table.neighborhood) table.transitions ≡ true
