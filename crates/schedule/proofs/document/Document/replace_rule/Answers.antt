use Rattle.schedule.proofs.Names.{arc_value, arith, plan_of}
use Rattle.schedule.proofs.Sounds.{IsSound-rule}
use Rattle.schedule.proofs.Unrefused.{fit_rule}
use Rattle.schedule.proofs.document.Document.replace_rule.Goals as goal

pub invariant_of-self : goal.invariant_of-self
invariant_of-self c =
    grind (arith, IsSound-rule (plan_of c.self.inside) (arc_value c.args.rule.now) c.self.invariant)

pub overflow_add-self : goal.overflow_add-self
overflow_add-self c = grind (arith, fit_rule c.args.self.now (arc_value c.args.rule.now))
