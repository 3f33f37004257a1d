use Rattle.plane_core.proofs.edges.+reach.Given as goal

abbrev pub decreases-reach : goal.decreases-reach
decreases-reach l = l.level
