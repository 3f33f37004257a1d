use Rattle.schedule.proofs.Names.{arith, plan_of}
use Rattle.schedule.proofs.Sounds.{IsSound-removed_branch}
use Rattle.schedule.proofs.document.Document.remove_branch.Goals as goal

pub invariant_of-self : goal.invariant_of-self
invariant_of-self c = grind (arith, IsSound-removed_branch (plan_of c.self.inside) c.args.branch c.self.invariant)
