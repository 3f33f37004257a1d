use Rattle.schedule.proofs.Names.{filter_same, rules}
use Rattle.schedule.proofs.apply.remove_intervention_in.Goals as goal

pub returns : goal.returns
returns c = filter_same _ _ _ (λ x b f' k. search rules) _ _ c.retain.ensures.filtered
