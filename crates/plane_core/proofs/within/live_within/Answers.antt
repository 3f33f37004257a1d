use Rattle.plane_core.proofs.Names.{Cell, Covers, Gathers, List, subst, world_of_rows}
use Rattle.plane_core.proofs.Boxed.{gathers-world}
use Rattle.plane_core.proofs.within.live_within.Goals as goal

pub returns : goal.returns
returns c =
    let w = world_of_rows c.args.rows.now in
    gathers-world _ c.args.rows.now c.root.result _ c.root.ensures
    (subst (λ (cells : List Cell). Gathers c.args.within.now w (Covers c.root.result) cells c.gather_within.new.found.items) c.new-found.ensures.items (c.in_ok-gather_within.ensures w c.root.ensures.shows))
