use Rattle.decision_tree.proofs.Names.{arith, common_steps, inr, sym, ◌∙◌}
use Rattle.std.proofs.Math.ListN.{drop_of_length-le}
use Rattle.decision_tree.proofs.Shared.KeptNodes.{length-nodes_of}
use Rattle.decision_tree.proofs.nodes.read_nodes.Goals as goal

pub returns-then-len-head-clause-read : goal.returns-then-len-head-clause-read
returns-then-len-head-clause-read c =
    let nodes = c.loop-line.nodes in
    let none = drop_of_length-le c.args.lines.now c.loop-line-test.false in
    inr (sym c.loop-line.invariant.read ∙ rw none (grind (arith, common_steps, length-nodes_of c.args.head.states nodes.depths.items nodes.entries.items)))

pub returns-clause-read : goal.returns-clause-read
returns-clause-read c =
    let nodes = c.loop-line.nodes in
    let none = drop_of_length-le c.args.lines.now c.loop-line-test.false in
    sym c.loop-line.invariant.read ∙ rw none (grind (arith, common_steps, length-nodes_of c.args.head.states nodes.depths.items nodes.entries.items))
