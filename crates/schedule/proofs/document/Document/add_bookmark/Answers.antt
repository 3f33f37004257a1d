use Rattle.schedule.proofs.Names.{arith, plan_of}
use Rattle.schedule.proofs.Unrefused.{fit_bookmark}
use Rattle.schedule.proofs.SoundLists.{IsSound-bookmark}
use Rattle.schedule.proofs.document.Document.add_bookmark.Goals as goal

pub invariant_of-self-2 : goal.invariant_of-self-2
invariant_of-self-2 c =
    grind (arith, IsSound-bookmark (plan_of c.self.inside) c.args.branch c.args.generation c.args.view c.self.invariant)

pub overflow_add-id : goal.overflow_add-id
overflow_add-id c = grind (arith, fit_bookmark c.args.self.now c.args.branch c.args.generation c.args.view)

pub overflow_add-self : goal.overflow_add-self
overflow_add-self c = grind (arith, fit_bookmark c.args.self.now c.args.branch c.args.generation c.args.view)
