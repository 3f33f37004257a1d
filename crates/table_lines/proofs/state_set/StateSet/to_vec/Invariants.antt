use Rattle.table_lines.proofs.Names.{filter, has, range_with_len, ◌≡◌}
use Rattle.table_lines.proofs.state_set.StateSet.to_vec.Given as goal

abbrev pub invariant-loop-state : goal.invariant-loop-state
invariant-loop-state l = l.states.items ≡ filter (has l.self) (range_with_len 0 l.state)
