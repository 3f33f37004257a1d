use Rattle.std.proofs.Common.{◌+◌, ◌*◌}
use Rattle.square_tree.proofs.tree.+set.Given as goal

abbrev pub decreases-PatchTree::set : goal.decreases-PatchTree::set
decreases-PatchTree::set g l = 3 * l.level + 2

abbrev pub decreases-PatchTree::alone : goal.decreases-PatchTree::alone
decreases-PatchTree::alone g l = 3 * l.level + 1

abbrev pub decreases-Four::set : goal.decreases-Four::set
decreases-Four::set g l = 3 * l.level
