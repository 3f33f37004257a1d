use Rattle.std.proofs.Common.{length}
use Rattle.tree_translation.proofs.layers.+layers_of.Given as goal

abbrev pub decreases-layers_of : goal.decreases-layers_of
decreases-layers_of l = length l.order.now
