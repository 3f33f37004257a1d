use Rattle.table_symmetry.proofs.Names.{expanded_one, flat_map, length, take, transition_limit, ◌++◌, ◌≡◌, ◌≤◌}
use Rattle.table_symmetry.specs.NextState as meaning
use Rattle.table_symmetry.proofs.expansion.+push_assigned.Given as goal

abbrev pub decreases-push_assigned : goal.decreases-push_assigned
decreases-push_assigned l = length l.bound.now

abbrev pub invariant-loop-state : goal.invariant-loop-state
invariant-loop-state l =
    (l.rows.items ≡ l.initial.rows.items ++ flat_map (λ state. flat_map (expanded_one l.symmetry) (meaning.assigned l.others (meaning.valued l.variable state l.transition))) (take l.state-index l.state-items))
    × (length l.rows.items ≤ transition_limit)
