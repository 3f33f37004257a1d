use Rattle.schedule.proofs.Names.{arith, plan_of}
use Rattle.schedule.proofs.Sounds.{IsSound-branch}
use Rattle.schedule.proofs.Unrefused.{fit_branch}
use Rattle.schedule.proofs.document.Document.add_branch.Goals as goal

pub invariant_of-self-2 : goal.invariant_of-self-2
invariant_of-self-2 c =
    grind (arith, IsSound-branch (plan_of c.self.inside) c.args.parent c.args.generation c.self.invariant)

pub overflow_add-id : goal.overflow_add-id
overflow_add-id c =
    let within = c.self.invariant.branches_sound.within in
    let left = (fit_branch (plan_of c.self.inside) c.args.parent c.args.generation
    (rw (← c.self.view_is) at c.requires)).marks.left in
    omega (arith, within, left)

pub overflow_add-self : goal.overflow_add-self
overflow_add-self c =
    let left = (fit_branch (plan_of c.self.inside) c.args.parent c.args.generation
    (rw (← c.self.view_is) at c.requires)).marks.left in
    omega (arith, left)
