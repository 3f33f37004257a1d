use Rattle.table_symmetry.proofs.Names.{IsKeptTable, expanded, first_match, inputs_of, inr, length, nine_zeros, sym, transition_limit, unwrap_or, ◌∙◌, ◌≡◌, ◌≤◌}
use Rattle.table_symmetry.proofs.Limits.{are_expanded, is_kept, within_limits-restless}
use Rattle.table_symmetry.proofs.table_reader.finish.Goals as goal
use Rattle.table_symmetry.proofs.table_reader.finish.Goals.{After-zeros_become}

-- the rows are those of the table, and few
few : (c : After-zeros_become) → length (expanded c.args.lines) ≤ transition_limit
few c = rw c.in_ok-rows.ensures.0 at c.in_ok-rows.ensures.1

-- the first of them that matches nine zeros gives what was found
found : (c : After-zeros_become) → c.zeros_become.result ≡ first_match (expanded c.args.lines) (inputs_of c.args.lines.neighborhood nine_zeros)
found c = rw (c.deref.ensures.value, c.in_ok-rows.ensures.0, c.neighborhood.ensures) at c.zeros_become.ensures

kept : (c : After-zeros_become) → unwrap_or c.zeros_become.result 0 ≡ 0 → IsKeptTable c.args.lines
kept c quiet = is_kept c.args.lines (rw c.lines.view_is at c.lines.invariant) (few c) (found c) quiet

pub returns-then-unwrap_or-ne0-clause-table : goal.returns-then-unwrap_or-ne0-clause-table
returns-then-unwrap_or-ne0-clause-table c =
    let at = (goal.at.returns-then-unwrap_or-ne0-clause-table c).After-zeros_become in
    inr (within_limits-restless c.args.lines (few at) (found at) (λ e. c.if-unwrap_or-ne0.true (c.unwrap_or.ensures ∙ e)))

pub new-requires : goal.new-requires
new-requires c = kept (goal.at.new-requires c).After-zeros_become (sym c.unwrap_or.ensures ∙ c.if-unwrap_or-ne0.false)

pub returns-clause-rows : goal.returns-clause-rows
returns-clause-rows c =
    let is = kept (goal.at.returns-clause-rows c).After-zeros_become (sym c.unwrap_or.ensures ∙ c.if-unwrap_or-ne0.false) in
    rw c.new.ensures (are_expanded c.args.lines c.in_ok-rows.rows.items is c.in_ok-rows.ensures.0)
