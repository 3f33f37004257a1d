use Rattle.plane_core.proofs.Names.{Covers, arith, on_ok_weaker, rules}
use Rattle.plane_core.proofs.Shared.Sound.{state-IsNumber}
use Rattle.plane_core.proofs.Boxed.{gathers-none, gathers-empty, gathers-next, gathers-all, gathers-cell}
use Rattle.plane_core.proofs.within.+gather_within.Goals as goal

pub returns-then-part-eq0 : goal.returns-then-part-eq0
returns-then-part-eq0 t c = λ w shows. gathers-empty _ w c.args.rows.now c.args.part _ c.if-part-eq0.true shows

pub returns-then-is_apart : goal.returns-then-is_apart
returns-then-is_apart t c = λ w shows. gathers-none _ w (Covers c.args.part) _ (λ x y h box live. c.is_apart.ensures.apart (search rules) x y h box)

pub overflow_cast-part : goal.overflow_cast-part
overflow_cast-part t c = grind (arith, state-IsNumber)

pub returns-then-part-eq0-2 : goal.returns-then-part-eq0-2
returns-then-part-eq0-2 t c = grind (arith, on_ok_weaker, gathers-cell)

pub loop-q-preserved : goal.loop-q-preserved
loop-q-preserved t c = grind (arith, gathers-next)

pub returns : goal.returns
returns t c = λ w shows. gathers-all _ w c.loop-q.q c.args.part _ _ (omega arith) (c.loop-q.invariant w shows)
