use Rattle.std.proofs.Common.{◌≡◌, take}
use Rattle.schedule.specs.Scratch.{cells_at}
use Rattle.edit_effects.proofs.cells.cells_at.Given as goal

abbrev pub invariant-loop-intervention : goal.invariant-loop-intervention
invariant-loop-intervention l =
    l.cells.items ≡ cells_at (take l.intervention-index l.interventions) l.mark.branch l.mark.generation
