use Rattle.plane_core.proofs.Names.{ap, sym, world_of_rows, ◌∙◌}
use Rattle.plane_core.proofs.Shared.Roots.{kept-unique}
use Rattle.plane_core.proofs.plane.Plane.equals.Goals as goal

pub returns : goal.returns
returns c =
    let ea = c.as_slice.ensures in
    let eb = c.as_slice-2.ensures in
    let same = c.are_same.ensures in (
      λ h. sym c.self.view_is ∙ ap world_of_rows (sym ea ∙ same.0 h ∙ eb) ∙ c.other.view_is,
      λ e. same.1 (ea ∙ kept-unique c.self.inside.rows c.other.inside.rows c.self.invariant.0 c.other.invariant.0 (c.self.view_is ∙ e ∙ sym c.other.view_is) ∙ sym eb),
    )
