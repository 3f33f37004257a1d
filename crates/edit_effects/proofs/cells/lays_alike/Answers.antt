use Rattle.std.proofs.Common.{◌≡◌, ◌∙◌, Bool, List, sym, ap, subst}
use Rattle.std.specs.Prelude.{All, ◌↔◌, IsTrue}
use Rattle.worlds.specs.declared.cell.CellSet.{CellSet}
use Rattle.worlds.specs.World.{World}
use Rattle.worlds.specs.Lay.{lay}
use Rattle.worlds.specs.Range.{CanBeLaid}
use Rattle.schedule.specs.Asked.{asked_of}
use Rattle.schedule.specs.Change.{changed}
use Rattle.schedule.proofs.Shared.Fits.{CanBeLaid-at, CanBeLaid-changed}
use Rattle.desk_events.specs.Felt.{cells_acting_at}
use Rattle.edit_effects.specs.CellsAfter.{cells_after}
use Rattle.edit_effects.proofs.Gathered.{cells_after-is}
use Rattle.edit_effects.proofs.cells.lays_alike.Goals as goal
use Rattle.edit_effects.proofs.cells.lays_alike.Goals.{After-as_slice, After-as_slice-2}

-- the cells before the edit and after it

old_is : (c : After-as_slice) → c.as_slice.result.now ≡ cells_acting_at c.args.document.now.interventions c.args.mark
old_is c =
    c.as_slice.ensures ∙ c.in_ok-old.ensures ∙ ap (λ is. cells_acting_at is c.args.mark) c.interventions-interventions.ensures

new_is : (c : After-as_slice-2) → c.as_slice-2.result.now ≡ cells_acting_at
    (changed c.args.document.now (asked_of c.args.edit.now)).plan.interventions c.args.mark
new_is c =
    c.as_slice-2.ensures ∙ c.in_ok-new.ensures
    ∙ ap (λ is. cells_after (asked_of c.args.edit.now) is c.args.mark) c.interventions-interventions.ensures
    ∙ cells_after-is c.args.document.now (asked_of c.args.edit.now) c.args.mark

pub lay-requires : goal.lay-requires
lay-requires c =
    let m = c.args.mark in
    subst (All CanBeLaid) (sym (old_is (goal.at.lay-requires c).After-as_slice))
    (CanBeLaid-at c.args.document.now m.branch m.generation c.start-start.ensures.sound)

pub lay-requires-2 : goal.lay-requires-2
lay-requires-2 c =
    let m = c.args.mark in
    subst (All CanBeLaid) (sym (new_is (goal.at.lay-requires-2 c).After-as_slice-2))
    (CanBeLaid-changed c.args.document.now (asked_of c.args.edit.now) m.branch m.generation c.start-start.ensures.sound
    c.requires)

alike : (w before later : World) (old new was now : List CellSet) (b : Bool) → old ≡ was → new ≡ now
    → before ≡ lay old w → later ≡ lay new w → (IsTrue b ↔ (before ≡ later)) → (IsTrue b ↔ (lay was w ≡ lay now w))
alike w before later old new was now b first second laid relaid same =
    let here = laid ∙ ap (λ cs. lay cs w) first in
    let there = relaid ∙ ap (λ cs. lay cs w) second in
    (λ yes. sym here ∙ same.0 yes ∙ there, λ h. same.1 (here ∙ h ∙ sym there))

pub returns : goal.returns
returns c =
    alike c.args.arrival.now c.in_ok-before.before c.in_ok-after.after c.as_slice.result.now c.as_slice-2.result.now
    (cells_acting_at c.args.document.now.interventions c.args.mark)
    (cells_acting_at (changed c.args.document.now (asked_of c.args.edit.now)).plan.interventions c.args.mark)
    c.equals.result (old_is (goal.at.returns c).After-as_slice) (new_is (goal.at.returns c).After-as_slice-2)
    c.in_ok-before.ensures c.in_ok-after.ensures c.equals.ensures
