use Rattle.std.proofs.Common.{sym, arith}
use Rattle.plane_core.proofs.Shared.Sound.{state-IsNumber}
use Rattle.plane_core.proofs.Parts.{of_quadrant, shows-none, shows-state}
use Rattle.plane_core.proofs.descent.+state_in.Goals as goal

pub overflow_cast-result : goal.overflow_cast-result
overflow_cast-result t c = grind (arith, state-IsNumber)

pub returns-then-part-eq0 : goal.returns-then-part-eq0
returns-then-part-eq0 t c = λ w shows. sym (shows-state w c.args.rows.now c.args.part _ _ c.if-part-eq0.true shows c.requires.spot)

pub returns-then-part-eq0-2 : goal.returns-then-part-eq0-2
returns-then-part-eq0-2 t c = λ w shows. sym (shows-none w c.args.rows.now c.args.part _ _ c.if-part-eq0-2.true shows c.requires.spot)

pub state_in-requires : goal.state_in-requires
state_in-requires t c =
    let here = of_quadrant c.quadrant_at.result c.args.part c.quadrant.result (omega arith) c.quadrant_at.ensures.few c.quadrant.ensures.place _ _ c.requires.spot (sym c.quadrant_at.ensures.quadrant) in
    (omega (arith, c.decreases), (c.quadrant.ensures.part, here))

pub returns : goal.returns
returns t c = λ w shows. c.state_in.ensures w (c.quadrant.ensures.cells w shows)
