use Rattle.decision_tree.proofs.Names.{AreKept, [], drop, nodes_from, nodes_of, ◌≡◌}
use Rattle.decision_tree.proofs.nodes.read_nodes.Given as goal

abbrev pub invariant-loop-line : goal.invariant-loop-line
invariant-loop-line l = record {
  read : nodes_from l.last l.head (nodes_of l.head.states l.nodes.depths.items l.nodes.entries.items) (drop l.line-index l.lines) ≡ nodes_from l.last l.head [] l.lines;
  kept : AreKept l.head l.nodes.depths.items l.nodes.entries.items;
}
