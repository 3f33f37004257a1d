use Rattle.plane_core.proofs.Names.{Gathers, InFirst, Shows, World}
use Rattle.plane_core.proofs.within.+gather_within.Given as goal

abbrev pub decreases-gather_within : goal.decreases-gather_within
decreases-gather_within l = l.part.level

abbrev pub invariant-loop-q : goal.invariant-loop-q
invariant-loop-q l = (w : World) → Shows w l.rows l.part → Gathers l.within w (InFirst l.q l.part) l.initial.found.items l.found.items
