use Rattle.multistate_macrocell.proofs.Standing.{Stand}
use Rattle.multistate_macrocell.proofs.rows.rows_of.Given as goal

abbrev pub invariant-loop-node : goal.invariant-loop-node
invariant-loop-node l = Stand l.rows.items l.nodes l.numbers.items l.node-index
