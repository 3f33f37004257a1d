-- The cells that are gathered after an edit are those of the document that it gives.
use Rattle.std.proofs.Common.{◌≡◌, ℕ, ◌∙◌, ◌++◌, List, [], ◌∷◌, refl, sym, ap, append-nil}
use Rattle.std.specs.Prelude.{◌==◌, if◌then◌else◌, flat_map}
use Rattle.std.proofs.lemmas.Grind.{flat_map-append}
use Rattle.worlds.specs.declared.cell.CellSet.{CellSet}
use Rattle.schedule.specs.declared.acts.Acts.{Acts}
use Rattle.schedule.specs.declared.document.Intervention.{Intervention}
use Rattle.schedule.specs.Asked.{Asked, Insert, Change, RemoveIntervention}
use Rattle.schedule.specs.Change.{acting, changed, next_intervention}
use Rattle.schedule.specs.Ids.{intervention_id, changed_at, without}
use Rattle.schedule.specs.Plan.{Plan}
use Rattle.desk_events.specs.declared.mark.Mark.{Mark}
use Rattle.edit_effects.specs.CellsAfter.{cells_after, cells_if_at, own_cells_after, own_cells_of}
use Rattle.desk_events.specs.Felt.{cells_acting_at}
use Rattle.desk_events.proofs.Shared.Tests.{either_way}

inserted_cells : (p : Plan) (branch : ℕ) (acts : Acts) (cells : List CellSet) (m : Mark)
    → cells_acting_at p.interventions m ++ cells_if_at branch acts cells m ≡ cells_acting_at
    (p.interventions ++ next_intervention p branch acts cells ∷ []) m
inserted_cells p branch acts cells m =
    let i : Intervention = next_intervention p branch acts cells in
    sym (flat_map-append (λ j. own_cells_of j m) p.interventions (i ∷ [])
    ∙ ap (λ cs. cells_acting_at p.interventions m ++ cs) (append-nil (own_cells_of i m)))

changed_cells : (is : List Intervention) (id : ℕ) (acts : Acts) (cells : List CellSet) (m : Mark)
    → flat_map (λ i. own_cells_of (if i.id == id then acting acts cells i else i) m) is ≡ cells_acting_at
    (changed_at intervention_id (acting acts cells) is id) m
changed_cells [] id acts cells m = refl
changed_cells (i ∷ is) id acts cells m = ap
    (λ more. own_cells_of (if i.id == id then acting acts cells i else i) m ++ more) (changed_cells is id acts cells m)

left_cells : (is : List Intervention) (id : ℕ) (m : Mark)
    → flat_map (λ i. own_cells_after (RemoveIntervention id) i m) is ≡ cells_acting_at (without intervention_id is id) m
left_cells [] id m = refl
left_cells (i ∷ is) id m =
    either_way (i.id == id)
    (λ hit. rw hit (left_cells is id m))
    (λ miss. rw miss (ap (λ more. own_cells_of i m ++ more) (left_cells is id m)))

pub cells_after-is : (p : Plan) (asked : Asked) (m : Mark) → cells_after asked p.interventions m ≡ cells_acting_at
    (changed p asked).plan.interventions m
cells_after-is p (Insert branch acts cells) m = inserted_cells p branch acts cells m
cells_after-is p (Change id acts cells) m = append-nil _ ∙ changed_cells p.interventions id acts cells m
cells_after-is p (RemoveIntervention id) m = append-nil _ ∙ left_cells p.interventions id m
cells_after-is p asked m = append-nil _
