use Rattle.plane_core.proofs.walk.+walk_square.Given as goal

abbrev pub decreases-walk_square : goal.decreases-walk_square
decreases-walk_square l = l.level
