use Rattle.plane_core.proofs.Names.{AreBoundsOf, HasMargin, subst}
use Rattle.plane_core.proofs.Measured.{none-blank}
use Rattle.plane_core.proofs.Shared.Roots.{margin}
use Rattle.plane_core.proofs.plane.Plane.bounds.Goals as goal

pub returns-clause-none : goal.returns-clause-none
returns-clause-none c =
    let found = c.self.inside.bounds in
    none-blank c.args.self.now found (subst (λ w. AreBoundsOf w found) c.self.view_is c.self.invariant.2.bounds)

pub returns-clause-in_range : goal.returns-clause-in_range
returns-clause-in_range c = subst (HasMargin 0) c.self.view_is (margin c.self.inside.rows c.self.invariant.0.valid)
