use Rattle.plane_core.proofs.Names.{AddsTouching, List, Span, length, ◌++◌, ◌≡◌}
use Rattle.plane_core.proofs.lay.add_touching.Given as goal

-- those that aren't left are added
abbrev pub invariant-loop-first : goal.invariant-loop-first
invariant-loop-first l = (done : List Span) × (done ++ l.rest ≡ l.run) × AddsTouching l.part done l.fn.found.items l.found.items

abbrev pub decreases-loop-first : goal.decreases-loop-first
decreases-loop-first l = length l.rest
