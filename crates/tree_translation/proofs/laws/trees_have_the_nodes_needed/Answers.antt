use Rattle.tree_translation.proofs.Shared.NodesHad.{nodes-had}
use Rattle.tree_translation.proofs.laws.trees_have_the_nodes_needed.Goals as goal

pub returns : goal.returns
returns c = nodes-had
