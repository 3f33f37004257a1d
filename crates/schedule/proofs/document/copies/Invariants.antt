use Rattle.std.proofs.Common.{◌≡◌, take}
use Rattle.schedule.proofs.document.copies.Given as goal

abbrev pub invariant-loop-intervention : goal.invariant-loop-intervention
invariant-loop-intervention l = l.copies.items ≡ take l.intervention-index l.interventions
