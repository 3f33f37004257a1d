use Rattle.square_tree.proofs.Names.{window_states, ◌≡◌}
use Rattle.square_tree.proofs.patch.Patch.window.Given as goal

abbrev pub invariant-loop-row : goal.invariant-loop-row
invariant-loop-row g l = l.states.items ≡ window_states l.self l.left l.top l.width l.row
