use Rattle.square_patches.proofs.laying.+lay_corner.Given as goal

abbrev pub decreases-lay_corner : goal.decreases-lay_corner
decreases-lay_corner g l = l.level
