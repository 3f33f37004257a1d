use Rattle.schedule.proofs.Names.{arith, plan_of}
use Rattle.schedule.proofs.Unrefused.{fit_insertion}
use Rattle.schedule.proofs.SoundLists.{IsSound-intervention}
use Rattle.schedule.proofs.document.Document.insert_intervention.Goals as goal

pub invariant_of-self-2 : goal.invariant_of-self-2
invariant_of-self-2 c = grind
    (arith, IsSound-intervention (plan_of c.self.inside) c.args.branch c.args.acts c.args.cells.now c.self.invariant)

pub overflow_add-id : goal.overflow_add-id
overflow_add-id c = grind (arith, fit_insertion c.args.self.now c.args.branch c.args.acts c.args.cells.now)

pub overflow_add-self : goal.overflow_add-self
overflow_add-self c = grind (arith, fit_insertion c.args.self.now c.args.branch c.args.acts c.args.cells.now)
