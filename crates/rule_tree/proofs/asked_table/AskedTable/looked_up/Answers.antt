use Rattle.std.proofs.Common.{◌≤◌, ◌+◌, length, arith}
use Rattle.tree_translation.specs.Translation.{node_limit}
use Rattle.tree_translation.proofs.Shared.NodesHad.{nodes-had}
use Rattle.rule_tree.proofs.asked_table.AskedTable.looked_up.Goals as goal

pub invariant_of-result : goal.invariant_of-result
invariant_of-result c = λ section tree is same.
    let had : node_limit + 1 ≤ length tree.nodes = nodes-had c.args.table (node_limit + 1) section tree c.requires is (rw c.in_ok-rule.ensures at same) in
    omega (arith, had)
