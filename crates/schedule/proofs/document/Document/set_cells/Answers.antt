use Rattle.schedule.proofs.Names.{arith, plan_of, spent}
use Rattle.schedule.proofs.Sounds.{IsSound-cells, CanBeLaid-fit}
use Rattle.schedule.proofs.Unrefused.{fit_cells, fit_spent}
use Rattle.schedule.proofs.document.Document.set_cells.Goals as goal

pub lay-requires : goal.lay-requires
lay-requires c = grind (arith, CanBeLaid-fit (plan_of c.self.inside) c.args.cells.now)

pub invariant_of-self : goal.invariant_of-self
invariant_of-self c = grind (arith, IsSound-cells (plan_of c.self.inside) c.args.cells.now c.self.invariant)

pub overflow_add-self : goal.overflow_add-self
overflow_add-self c =
    let p = plan_of c.self.inside in
    let left = fit_spent p
    (fit_cells p c.args.cells.now (spent p) (rw (← c.self.view_is) at c.requires)).rest in
    omega (arith, left)
