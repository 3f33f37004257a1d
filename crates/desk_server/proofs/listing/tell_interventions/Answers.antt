use Rattle.desk_server.proofs.Names.{Appends, AppendsFront, ap, arith, get_or, intervention_line, length, rules, subst, sym, wrote_err, ◌<◌, ◌∙◌, ◌≡◌}
use Rattle.desk_server.proofs.Told.{parts_more, parts_broken}
use Rattle.desk_server.proofs.listing.tell_interventions.Goals as goal

pub returns-in_err-tell_intervention-clause-bytes : goal.returns-in_err-tell_intervention-clause-bytes
returns-in_err-tell_intervention-clause-bytes g c =
    let low : c.loop-intervention.intervention-index < length c.args.interventions.now = omega arith in
    let item = c.intervention-item.result in
    let same : get_or c.args.interventions.now c.loop-intervention.intervention-index item ≡ item = search rules in
    wrote_err _ _ c.from_residual.result _ c.from_residual.ensures.0
    (parts_broken intervention_line _ _ _ c.args.interventions.now c.loop-intervention.intervention-index item low
    c.loop-intervention.invariant.told
    (subst (AppendsFront _ _) (ap intervention_line (sym same)) c.in_err-tell_intervention.ensures.bytes))

pub loop-intervention-preserved : goal.loop-intervention-preserved
loop-intervention-preserved g c =
    let low : c.loop-intervention.intervention-index < length c.args.interventions.now = omega arith in
    let item = c.intervention-item.result in
    let same : get_or c.args.interventions.now c.loop-intervention.intervention-index item ≡ item = search rules in
    record {
      told = parts_more intervention_line _ _ _ c.args.interventions.now c.loop-intervention.intervention-index item low
          c.loop-intervention.invariant.told
          (subst (Appends _ _) (ap intervention_line (sym same)) c.in_ok-tell_intervention.ensures.bytes);
      worked = c.in_ok-tell_intervention.ensures.worked ∙ c.loop-intervention.invariant.worked;
    }
