use Rattle.std.proofs.Common.{◌+◌, ◌*◌}
use Rattle.square_tree.proofs.tree.+lay.Given as goal

abbrev pub decreases-PatchTree::lay_at : goal.decreases-PatchTree::lay_at
decreases-PatchTree::lay_at g l = 2 * l.level + 1

abbrev pub decreases-Four::lay_at : goal.decreases-Four::lay_at
decreases-Four::lay_at g l = 2 * l.level
