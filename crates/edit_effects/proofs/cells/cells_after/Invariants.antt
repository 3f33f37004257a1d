use Rattle.std.proofs.Common.{◌≡◌, take}
use Rattle.std.specs.Prelude.{flat_map}
use Rattle.schedule.specs.Asked.{asked_of}
use Rattle.edit_effects.specs.CellsAfter.{own_cells_after}
use Rattle.edit_effects.proofs.cells.cells_after.Given as goal

abbrev pub invariant-loop-intervention : goal.invariant-loop-intervention
invariant-loop-intervention l = l.cells.items ≡ flat_map (λ i. own_cells_after (asked_of l.edit) i l.mark)
    (take l.intervention-index l.interventions)
