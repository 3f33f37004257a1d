-- The expanded transitions of a table that a file may have, as they are handed on.
use Rattle.std.specs.Prelude.{◌≡◌, ℕ, ◌+◌, ◌<◌, ◌≤◌, All, true, List, length, slice_index, unwrap_or}
use Rattle.table_symmetry.specs.declared.expansion.Expanded.{Expanded}
use Rattle.table_symmetry.specs.Expanded.{expanded, first_match, transition_limit}
use Rattle.table_symmetry.specs.NextState.{inputs_of, next, places_of}
use Rattle.table_symmetry.specs.Rule.{is_sound}
use Rattle.table_symmetry.specs.Table.{Table}

-- the expanded transitions of a table that a file may have: few enough, each with a set for the
-- cell and each neighbour and a state for its result, and the first that matches gives the next
-- state, where the cell keeps its own without one
pub record AreExpanded (table : Table) (rows : List Expanded) : Type 0 where
  pub sound : is_sound table ≡ true
  pub listed : rows ≡ expanded table
  pub few : length rows ≤ transition_limit
  pub full : All (λ (row : Expanded). length row.inputs ≡ length (places_of table.neighborhood) + 1)
      rows
  pub below : All (λ (row : Expanded). row.result < table.states) rows
  pub first : (around : List ℕ)
      → unwrap_or (first_match rows (inputs_of table.neighborhood around)) (slice_index around 0)
      ≡ next table around
