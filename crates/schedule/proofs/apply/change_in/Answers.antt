use Rattle.schedule.proofs.Names.{acting, intervention_id, sym, ◌∙◌}
use Rattle.schedule.proofs.Shared.Ids.{changed_at-Some, changed_at-None}
use Rattle.schedule.proofs.apply.change_in.Goals as goal

pub returns-in-Some : goal.returns-in-Some
returns-in-Some c =
    changed_at-Some intervention_id (acting c.args.acts c.args.cells) c.args.interventions.now c.in-Some.place
    c.args.id c.index-interventions-place.result c.requires
    (sym c.intervention_place.ensures ∙ c.in-Some.is)

pub returns-in_default : goal.returns-in_default
returns-in_default c = changed_at-None intervention_id
    (acting c.args.acts c.args.cells) c.args.interventions.now c.args.id
    (sym c.intervention_place.ensures ∙ c.in_default.is)
