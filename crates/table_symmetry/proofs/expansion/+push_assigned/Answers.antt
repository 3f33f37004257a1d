use Rattle.table_symmetry.proofs.Names.{err_from_is_err_and, take_all, ◌∙◌}
use Rattle.table_symmetry.proofs.Growing.{all_under, more, too_long, rows_under}
use Rattle.table_symmetry.proofs.expansion.+push_assigned.Goals as goal

pub returns-in_err-push_assigned-in-Some : goal.returns-in_err-push_assigned-in-Some
returns-in_err-push_assigned-in-Some t c =
    let fault = c.in_err-push_assigned-in-Some.field-0.0 in
    let under = rows_under c.args.symmetry c.in-Some.others.now c.in-Some.variable.now c.args.transition.now in
    let here = rw c.in_ok-valued-in-Some.ensures at c.in_err-push_assigned-in-Some.ensures in
    let loop = c.loop-state in
    let part = too_long under fault c.args.rows.now.items loop.rows.items c.deref-state-items.result.now loop.state-index 0 c.loop-state-test.true loop.invariant.0 here in
    let states = c.deref-state-items.ensures.value ∙ c.in_ok-states-in-Some.ensures in
    let whole = all_under c.args.symmetry c.in-Some.others.now c.in-Some.variable.now c.args.transition.now c.args.bound.now c.in-Some.ensures.cases.0 in
    let given = err_from_is_err_and c.from_residual-in_err-push_assigned-in-Some.result c.from_residual-in_err-push_assigned-in-Some.ensures.1 in
    rw (given.1, given.2) (rw (states, whole) at part)

pub loop-state-preserved : goal.loop-state-preserved
loop-state-preserved t c =
    let under = rows_under c.args.symmetry c.in-Some.others.now c.in-Some.variable.now c.args.transition.now in
    let next = more under c.args.rows.now.items c.deref-state-items.result.now c.loop-state.state-index 0 c.loop-state-test.true in
    let pushed = rw (c.in_ok-valued-in-Some.ensures, c.loop-state.invariant.0) at c.in_ok-push_assigned-in-Some.ensures.0 in
    (pushed ∙ next, c.in_ok-push_assigned-in-Some.ensures.1)

pub returns-after-loop-state : goal.returns-after-loop-state
returns-after-loop-state t c =
    let states = c.deref-state-items.ensures.value ∙ c.in_ok-states-in-Some.ensures in
    let whole = all_under c.args.symmetry c.in-Some.others.now c.in-Some.variable.now c.args.transition.now c.args.bound.now c.in-Some.ensures.cases.0 in
    let all = take_all c.loop-state.state-index c.deref-state-items.result.now c.loop-state-test.false in
    (rw (all, states, whole) at c.loop-state.invariant.0, c.loop-state.invariant.1)
