use Rattle.plane_core.proofs.Names.{ap, drawn, world_of_rows, ◌∙◌}
use Rattle.plane_core.proofs.Shared.Roots.{world-none}
use Rattle.plane_core.proofs.weave.rows_of.Goals as goal

pub returns : goal.returns
returns c =
    let laid = c.in_ok-lay_rows.ensures in
    record { valid = laid.rows.0; few = laid.rows.1; world = laid.world ∙ ap (drawn c.args.spans.now) (ap world_of_rows c.new-rows.ensures.items ∙ world-none) }
