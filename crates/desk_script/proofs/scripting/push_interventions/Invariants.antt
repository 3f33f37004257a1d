use Rattle.desk_script.proofs.Names.{add_intervention, drop, intervention_id, skip_intervention}
use Rattle.desk_script.proofs.Pushed.{IsAdding}
use Rattle.desk_script.proofs.scripting.push_interventions.Given as goal

abbrev pub invariant-loop-intervention : goal.invariant-loop-intervention
invariant-loop-intervention l = IsAdding intervention_id skip_intervention add_intervention l.fn.script.items l.script.items l.last
    (drop l.intervention-index l.interventions) l.interventions
