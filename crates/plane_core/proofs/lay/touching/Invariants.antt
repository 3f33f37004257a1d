use Rattle.plane_core.proofs.Names.{AreThoseIn, spans_of_runs, take}
use Rattle.plane_core.proofs.lay.touching.Given as goal

abbrev pub invariant-loop-run : goal.invariant-loop-run
invariant-loop-run l = AreThoseIn l.part (spans_of_runs (take l.run-index l.runs)) (spans_of_runs l.found.items)
