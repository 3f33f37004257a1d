use Rattle.schedule.proofs.Names.{arc_value, arith, plan_of}
use Rattle.schedule.proofs.Sounds.{IsSound-start}
use Rattle.schedule.proofs.document.Document.replace_start.Goals as goal

pub invariant_of-self : goal.invariant_of-self
invariant_of-self c =
    grind (arith, IsSound-start (plan_of c.self.inside) (arc_value c.args.start.now) c.self.invariant)
