use Rattle.plane_core.proofs.Names.{arith, refl, same_lists}
use Rattle.plane_core.proofs.row.are_same.Goals as goal

pub returns : goal.returns
returns c = (λ _. same_lists c.args.a.now c.args.b.now (omega arith) (λ k d less. c.loop-i.invariant k d (omega arith)), λ _. refl)
