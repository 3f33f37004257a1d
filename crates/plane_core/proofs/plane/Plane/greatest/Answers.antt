use Rattle.plane_core.proofs.Names.{IsGreatest, World, subst}
use Rattle.plane_core.proofs.Measured.{greatest-counted}
use Rattle.plane_core.proofs.Shared.Roots.{root-below}
use Rattle.plane_core.proofs.plane.Plane.greatest.Goals as goal

pub returns : goal.returns
returns c =
    subst (λ (w : World). IsGreatest w c.greatest_counted.result) c.self.view_is
    (greatest-counted _ c.self.inside.counts _ (root-below c.self.inside.rows c.self.invariant.0.valid) c.self.invariant.2.counts c.greatest_counted.ensures)
