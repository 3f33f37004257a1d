use Rattle.desk_script.proofs.Names.{add_intervention, ap, arith, codes, ids_between, intervention_id, length, skip_intervention, sym, ◌++◌, ◌<◌, ◌∙◌}
use Rattle.desk_script.proofs.Pushed.{added-more, skipped, intervention-skipped}
use Rattle.desk_script.proofs.scripting.push_interventions.Goals as goal

pub loop-intervention-preserved : goal.loop-intervention-preserved
loop-intervention-preserved c =
    let below : c.loop-intervention.intervention-index < length c.args.interventions.now = omega arith in
    added-more intervention_id skip_intervention add_intervention _ c.loop-intervention.script.items _ _ c.loop-intervention.last _ _ _ c.intervention-item.result below (sym c.intervention-item.is)
    (c.in_ok-push_skipped.ensures ∙ ap (λ v. c.loop-intervention.script.items ++ v)
    (skipped skip_intervention (codes "on 0 at 0 set 0 0 0\n") (codes "drop ") (ids_between c.loop-intervention.last _) intervention-skipped))
    c.in_ok-push_intervention.ensures c.loop-intervention.invariant
