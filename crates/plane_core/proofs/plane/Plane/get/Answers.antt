use Rattle.plane_core.proofs.Names.{HasMargin, ap, ap₂, cell, cell-outside, subst, to_z-of_z, world_of_rows, ◌∙◌, ◌≡◌}
use Rattle.plane_core.proofs.Shared.Roots.{margin}
use Rattle.plane_core.proofs.plane.Plane.get.Goals as goal

pub returns : goal.returns
returns c =
    let rows = c.self.inside.rows in
    let is : c.state_at.result ≡ cell c.args.self.now c.args.x c.args.y =
    c.state_at.ensures
    ∙ ap₂ (cell (world_of_rows c.as_slice.result.now)) (to_z-of_z c.ranges.x) (to_z-of_z c.ranges.y)
    ∙ ap (λ rs. cell (world_of_rows rs) c.args.x c.args.y) c.as_slice.ensures
    ∙ ap (λ w. cell w c.args.x c.args.y) c.self.view_is in
    let inside : HasMargin 0 c.args.self.now = subst (HasMargin 0) c.self.view_is (margin rows c.self.invariant.0.valid) in
    record { state = is; outside = λ out. is ∙ cell-outside c.args.self.now c.args.x c.args.y inside out }
