use Rattle.table_symmetry.proofs.Names.{expanded_of, flat_map, length, take, transition_limit, ◌≡◌, ◌≤◌}
use Rattle.table_symmetry.proofs.expansion.expand.Given as goal

abbrev pub invariant-loop-transition : goal.invariant-loop-transition
invariant-loop-transition l =
    (l.rows.items ≡ flat_map (expanded_of l.symmetry) (take l.transition-index l.transitions))
    × (length l.rows.items ≤ transition_limit)
