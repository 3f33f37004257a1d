use Rattle.plane_core.proofs.Names.{AreLaidStates, spans_of_runs, take}
use Rattle.plane_core.proofs.lay.laid_runs.Given as goal

abbrev pub invariant-loop-run : goal.invariant-loop-run
invariant-loop-run l = AreLaidStates l.part (spans_of_runs (take l.run-index l.runs)) l.fn.states l.laid
