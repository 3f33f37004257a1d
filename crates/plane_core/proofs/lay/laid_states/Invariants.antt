use Rattle.plane_core.proofs.Names.{AreLaidStates, take}
use Rattle.plane_core.proofs.lay.laid_states.Given as goal

abbrev pub invariant-loop-span : goal.invariant-loop-span
invariant-loop-span l = AreLaidStates l.part (take l.span-index l.spans) l.fn.states l.laid
