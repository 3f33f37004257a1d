use Rattle.std.proofs.Common.{◌-◌, sym, ap, ◌∙◌, arith}
use Rattle.plane_core.proofs.Shared.Centres.{HasMiddle, least-one, least-nw, least-ne, least-sw, least-se, rows-some, root-kid, centre-is}
use Rattle.plane_core.proofs.centre.centre.Goals as goal

pub returns-then-level-eq1-clause-none : goal.returns-then-level-eq1-clause-none
returns-then-level-eq1-clause-none c = least-one c.args.rows.now c.requires.rows.valid (sym c.root_level-level.ensures.level ∙ c.if-level-eq1.true)

pub overflow_sub-root : goal.overflow_sub-root
overflow_sub-root c = let some = rows-some c.args.rows.now (λ e. c.if-level-eq1.false (c.root_level-level.ensures.level ∙ e)) in omega arith

pub bounds-rows-rows : goal.bounds-rows-rows
bounds-rows-rows c = let some = rows-some c.args.rows.now (λ e. c.if-level-eq1.false (c.root_level-level.ensures.level ∙ e)) in omega arith

pub inner-requires-clause-number : goal.inner-requires-clause-number
inner-requires-clause-number c = grind (arith, root-kid)

pub inner-requires-2-clause-number : goal.inner-requires-2-clause-number
inner-requires-2-clause-number c = grind (arith, root-kid)

pub inner-requires-3-clause-number : goal.inner-requires-3-clause-number
inner-requires-3-clause-number c = grind (arith, root-kid)

pub inner-requires-4-clause-number : goal.inner-requires-4-clause-number
inner-requires-4-clause-number c = grind (arith, root-kid)

pub returns-in_err-nw-clause-none : goal.returns-in_err-nw-clause-none
returns-in_err-nw-clause-none c = grind (arith, least-nw)

pub returns-in_err-ne-clause-none : goal.returns-in_err-ne-clause-none
returns-in_err-ne-clause-none c = grind (arith, least-ne)

pub returns-in_err-sw-clause-none : goal.returns-in_err-sw-clause-none
returns-in_err-sw-clause-none c = grind (arith, least-sw)

pub returns-in_err-se-clause-none : goal.returns-in_err-se-clause-none
returns-in_err-se-clause-none c = grind (arith, least-se)

pub returns-clause-some : goal.returns-clause-some
returns-clause-some c =
    let middle : HasMiddle c.args.rows.now ((c.root_level-level.result - 1) - 1) c.in_ok-nw.nw c.in_ok-ne.ne c.in_ok-sw.sw c.in_ok-se.se =
    record { nw = c.in_ok-nw.ensures.some; ne = c.in_ok-ne.ensures.some; sw = c.in_ok-sw.ensures.some; se = c.in_ok-se.ensures.some } in
    centre-is c.args.rows.now (c.root_level-level.result - 1) c.in_ok-nw.nw c.in_ok-ne.ne c.in_ok-sw.sw c.in_ok-se.se c.requires.rows.valid c.requires.rows.none_empty
    (λ e. c.if-level-eq1.false (c.root_level-level.ensures.level ∙ e)) (ap (λ k. k - 1) c.root_level-level.ensures.level) middle
