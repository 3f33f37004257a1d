use Rattle.std.proofs.Common.{◌+◌, ◌*◌}
use Rattle.square_patches.proofs.laying.+lay.Given as goal

abbrev pub decreases-lay_four : goal.decreases-lay_four
decreases-lay_four g l = 2 * l.level

abbrev pub decreases-lay_tree : goal.decreases-lay_tree
decreases-lay_tree g l = 2 * l.level + 1
