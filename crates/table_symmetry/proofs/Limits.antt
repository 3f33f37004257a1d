-- A table within the limits, and one that isn't.
use Rattle.table_symmetry.proofs.Names.{Err, Expanded, IsKeptTable, IsRead, List, NotQuiescent, Option, Table, and_from, ap, arith, eq-eqb, expanded, false, first_match, gives_states, inputs_of, is_quiescent, length, list_all, nat_lt}
use Rattle.table_symmetry.proofs.Names.{nat_tests, ne_eqb, next, nine_zeros, places_of, refl, subst, sym, transition_limit, true, unwrap_or, within_limits, ℕ, ◌+◌, ◌<◌, ◌∙◌, ◌≡◌, ◌≤◌}
use Rattle.table_symmetry.specs.Rows.{AreExpanded}
use Rattle.table_symmetry.proofs.FirstMatch.{next-expanded}
use Rattle.table_symmetry.proofs.ExpandedRows.{expanded-below, expanded-length}
use Rattle.table_symmetry.proofs.Shared.SaidTables.{all_give_states}

-- what the first expanded transition that matches gives nine zeros
next_of_zeros : {found : Option ℕ} (table : Table) → found ≡ first_match (expanded table) (inputs_of table.neighborhood nine_zeros) → unwrap_or found 0 ≡ next table nine_zeros
next_of_zeros table is = ap (λ o. unwrap_or o 0) is ∙ next-expanded table nine_zeros

-- a table that was read, of few expanded transitions, and that is quiescent, is one that is kept
pub is_kept : {found : Option ℕ} (table : Table) → IsRead table → length (expanded table) ≤ transition_limit → found ≡ first_match (expanded table) (inputs_of table.neighborhood nine_zeros)
    → unwrap_or found 0 ≡ 0 → IsKeptTable table
is_kept table read few is quiet =
    let some : 0 < table.states = omega (arith, read.at_least) in
    let still : is_quiescent table ≡ true = eq-eqb (next table nine_zeros) 0 (sym (next_of_zeros table is) ∙ quiet) in
    let gives = all_give_states table.states table.transitions some read.below in
    record { read = read; sound = and_from (is_quiescent table) (list_all (gives_states table.states) table.transitions) still gives; few = few }

pub within_limits-restless : {found : Option ℕ} (table : Table) → length (expanded table) ≤ transition_limit → found ≡ first_match (expanded table) (inputs_of table.neighborhood nine_zeros)
    → (unwrap_or found 0 ≡ 0 → ⊥) → within_limits table ≡ Err NotQuiescent
within_limits-restless table small is moves =
    let few : nat_lt transition_limit (length (expanded table)) ≡ false = grind (arith, nat_tests, small) in
    let restless : is_quiescent table ≡ false = ne_eqb (next table nine_zeros) 0 (λ e. moves (next_of_zeros table is ∙ e)) in
    rw (few, restless)

-- the expanded transitions of a table that is kept
pub are_expanded : (table : Table) (rows : List Expanded) → IsKeptTable table → rows ≡ expanded table → AreExpanded table rows
are_expanded table rows kept listed =
    subst (AreExpanded table) (sym listed) (record {
      sound = kept.sound;
      listed = refl;
      few = kept.few;
      full = expanded-length (length (places_of table.neighborhood) + 1) table.symmetry table.transitions kept.read.full;
      below = expanded-below table kept.sound;
      first = next-expanded table;
    })
