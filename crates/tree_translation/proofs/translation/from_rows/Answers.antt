use Rattle.tree_translation.proofs.Names.{DoesRows, NeedStarts, NeedsNodes, arith, entries_in, inputs-below, length, neighbors_of, node_limit, order_of, rows_give, ℕ, ◌+◌, ◌∙◌, ◌≡◌}
use Rattle.tree_translation.proofs.Apart.{passed-on}
use Rattle.tree_translation.proofs.Beginnings.{needs-nodes}
use Rattle.tree_translation.proofs.Translating.{as_many, rows-next}
use Rattle.tree_translation.proofs.translation.from_rows.Goals as goal
use Rattle.tree_translation.proofs.translation.from_rows.Goals.{After-states}

-- the order that was read is the table's
order : (c : After-states) → c.order_of-order.result.now ≡ order_of c.args.table.now.neighborhood
order c = rw (c.order_of-order.ensures, c.neighborhood.ensures)

-- what the rows need, the table needs
needs : (c : After-states) (count : ℕ)
    → NeedStarts c.states.result (length c.order_of-order.result.now) (λ k inputs. rows_give c.order_of-order.result.now c.args.rows.items inputs) 1 count
    → NeedsNodes c.args.table.now count
needs c count needed =
    needs-nodes c.args.table.now c.args.rows.items count (omega (arith, c.states.ensures.count, c.states.ensures.at_least)) c.requires
    (rw (c.states.ensures.count, order c) at needed)

pub finish-requires-clause-does : goal.finish-requires-clause-does
finish-requires-clause-does c =
    let table = c.args.table.now in
    let order_is = order (goal.at.finish-requires-clause-does c).After-states in
    let does : DoesRows table.states (order_of table.neighborhood) c.args.rows.items (entries_in c.as_slice.result.now) =
    rw c.as_slice.ensures.keys (rw (c.states.ensures.count, order_is) at c.in_ok-nodes.ensures.does) in
    record {
      width = rw c.as_slice.ensures.keys (rw c.states.ensures.count at c.in_ok-nodes.ensures.width);
      leading = does.leading;
      same = λ around low.
          let below = inputs-below table.states (neighbors_of table.neighborhood) around (omega (arith, c.states.ensures.count, c.states.ensures.at_least)) low in
          does.follows _ (as_many table.neighborhood around) below ∙ rows-next table c.args.rows.items c.requires around;
    }

pub returns-clause-smallest : goal.returns-clause-smallest
returns-clause-smallest c =
    let all = needs (goal.at.returns-clause-smallest c).After-states (length c.in_ok-nodes.nodes.keys) c.in_ok-nodes.ensures.needed in
    grind (arith, all, c.finish.ensures.nodes, c.as_slice.ensures.keys)

pub returns-in_err-nodes-clause-large : goal.returns-in_err-nodes-clause-large
returns-in_err-nodes-clause-large c =
    passed-on c.from_residual.result c.in_err-nodes.field-0.0 _ c.from_residual.ensures.1
    (λ is. needs (goal.at.returns-in_err-nodes-clause-large c).After-states (node_limit + 1) (c.in_err-nodes.ensures.large is))
