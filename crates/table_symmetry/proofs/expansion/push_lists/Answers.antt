use Rattle.table_symmetry.proofs.Names.{Expanded, ap, append_assoc, lists_in, map-append, row_of, take_all, ◌≡◌}
use Rattle.table_symmetry.proofs.Arranged.{lists-more}
use Rattle.table_symmetry.proofs.expansion.push_lists.Goals as goal

pub loop-list-preserved : goal.loop-list-preserved
loop-list-preserved c =
    let next = lists-more c.args.lists.now c.loop-list.list-index c.list-item.result c.loop-list-test.true c.list-item.is in
    let made : ◌≡◌ {A = Expanded} (record { inputs = c.from_vec.result; result = c.args.given }) (row_of c.args.centre.now c.args.given c.list-item.result.items) = rw
    (c.from_vec.ensures, c.in_ok-inputs.ensures, c.deref.ensures.value) in
    rw (c.in_ok-push.ensures.items, made, c.loop-list.invariant, next, map-append, append_assoc)

pub returns : goal.returns
returns c = rw (ap lists_in (take_all c.loop-list.list-index c.args.lists.now c.loop-list-test.false)) at c.loop-list.invariant
