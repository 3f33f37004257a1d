use Rattle.plane_core.proofs.descent.+state_in.Given as goal

abbrev pub decreases-state_in : goal.decreases-state_in
decreases-state_in l = l.part.level
