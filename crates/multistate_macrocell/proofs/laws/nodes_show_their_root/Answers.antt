use Rattle.multistate_macrocell.proofs.NodeCells.{nodes-show}
use Rattle.multistate_macrocell.proofs.laws.nodes_show_their_root.Goals as goal

pub returns : goal.returns
returns c = nodes-show
