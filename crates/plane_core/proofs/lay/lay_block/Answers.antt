use Rattle.plane_core.proofs.Names.{AreQuadrants, IfOk-weaker, List, SquareRow, arith, get_or, spans_of_runs, subst}
use Rattle.plane_core.proofs.Laying.{laid-block}
use Rattle.plane_core.proofs.Shared.Sound.{IsNumber-state, state-IsNumber}
use Rattle.plane_core.proofs.lay.lay_block.Goals as goal

pub laid_runs-requires-clause-states : goal.laid_runs-requires-clause-states
laid_runs-requires-clause-states c = λ q hq. state-IsNumber c.deref.result.now (get_or c.quadrants-states.result q 0) (c.quadrants-states.ensures.numbers q hq)

pub made-requires-clause-row : goal.made-requires-clause-row
made-requires-clause-row c = grind (arith, IsNumber-state)

pub returns : goal.returns
returns c =
    let rows = c.args.rows.now.items in
    let p = c.args.part in
    let parts : AreQuadrants rows 0 p.number c.quadrants-states.result = subst (λ (rs : List SquareRow). AreQuadrants rs 0 p.number c.quadrants-states.result) c.deref.ensures.value c.quadrants-states.ensures in
    IfOk-weaker c.made.result _ _ (λ n is.
    laid-block rows c.made.new.rows.items p c.quadrants-states.result c.laid_runs.result n (spans_of_runs c.args.runs.now) c.requires.square.0 c.requires.square.1 c.requires.few parts c.laid_runs.ensures is)
    c.made.ensures
