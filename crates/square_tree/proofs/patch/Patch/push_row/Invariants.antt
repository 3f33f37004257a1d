use Rattle.square_tree.proofs.Names.{row_states, ◌++◌, ◌≡◌}
use Rattle.square_tree.proofs.patch.Patch.push_row.Given as goal

abbrev pub invariant-loop-column : goal.invariant-loop-column
invariant-loop-column g l = l.states.items ≡ l.fn.states.items ++ row_states l.self l.left l.y l.column
