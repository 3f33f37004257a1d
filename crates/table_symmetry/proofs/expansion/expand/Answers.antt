use Rattle.table_symmetry.proofs.Names.{[], err_from_is_err_and, expanded_of, zero-add}
use Rattle.table_symmetry.proofs.Growing.{too_long}
use Rattle.table_symmetry.proofs.expansion.expand.Goals as goal

pub returns-in_err-push_assigned : goal.returns-in_err-push_assigned
returns-in_err-push_assigned c =
    let fault = c.in_err-push_assigned.field-0.0 in
    let here = rw (c.deref.ensures.value, c.in_ok-bound.ensures, c.transition-item.is) at c.in_err-push_assigned.ensures in
    let loop = c.loop-transition in
    let part = too_long (expanded_of c.args.symmetry) fault [] loop.rows.items c.args.transitions.now loop.transition-index c.transition-item.result c.loop-transition-test.true loop.invariant.0 here in
    let given = err_from_is_err_and c.from_residual-in_err-push_assigned.result c.from_residual-in_err-push_assigned.ensures.1 in
    rw (given.1, given.2) (rw zero-add at part)
