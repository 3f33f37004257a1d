use Rattle.tree_translation.proofs.Names.{entries_in, length, nodes_in, take, ◌*◌, ◌≡◌}
use Rattle.tree_translation.proofs.sharing.joined.Given as goal

abbrev pub invariant-loop-node : goal.invariant-loop-node
invariant-loop-node l = record {
  filled : length l.entries.items ≡ l.node-index * l.states;
  nodes : nodes_in l.states l.node-index l.entries.items ≡ entries_in (take l.node-index l.nodes);
}
