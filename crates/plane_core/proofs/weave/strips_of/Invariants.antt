use Rattle.plane_core.proofs.Names.{AreBefore, AreStripsOf, take}
use Rattle.plane_core.proofs.weave.strips_of.Given as goal

abbrev pub invariant-loop-span : goal.invariant-loop-span
invariant-loop-span l = AreStripsOf (take l.span-index l.spans) l.strips.items × AreBefore l.strips.items l.x l.y
