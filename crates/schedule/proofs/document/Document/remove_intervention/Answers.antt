use Rattle.schedule.proofs.Names.{arith, plan_of}
use Rattle.schedule.proofs.SoundLists.{IsSound-removed_intervention}
use Rattle.schedule.proofs.document.Document.remove_intervention.Goals as goal

pub invariant_of-self : goal.invariant_of-self
invariant_of-self c = grind (arith, IsSound-removed_intervention (plan_of c.self.inside) c.args.id c.self.invariant)
