use Rattle.decision_tree.proofs.Names.{drop, follow, leads, nodes_in, states_at, true, ◌+◌, ◌≡◌}
use Rattle.decision_tree.proofs.entries.follow_narrow.Given as goal

abbrev pub invariant-loop-input : goal.invariant-loop-input
invariant-loop-input l = record {
  leading : leads l.states (nodes_in l.states (l.root + 1) l.entries) l.number (drop l.input-index (states_at l.inputs)) ≡ true;
  found : follow (nodes_in l.states (l.root + 1) l.entries) l.number (drop l.input-index (states_at l.inputs)) ≡ follow (nodes_in l.states (l.root + 1) l.entries) l.root (states_at l.inputs);
}
