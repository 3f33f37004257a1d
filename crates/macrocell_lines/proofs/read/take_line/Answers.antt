use Rattle.macrocell_lines.proofs.Names.{AreNodes, Follows, ap, arith, length, subst, sym, ◌<◌}
use Rattle.macrocell_lines.proofs.Growing.{nodes-push}
use Rattle.macrocell_lines.proofs.read.take_line.Goals as goal

pub returns-in_ok-push-in_default-clause-nodes : goal.returns-in_ok-push-in_default-clause-nodes
returns-in_ok-push-in_default-clause-nodes c =
    let node = c.in_ok-node-in_default.node in
    let nodes = c.args.nodes.now.items in
    let follows : Follows nodes node = subst (λ ns. Follows ns node) c.deref.ensures.value c.in_ok-node-in_default.ensures.follows in
    let room : length nodes < 16777216 = omega (arith, ap length c.deref.ensures.value, c.in_ok-node-in_default.ensures.room) in
    subst AreNodes (sym c.in_ok-push-in_default.ensures.items) (nodes-push nodes node c.requires follows room)
