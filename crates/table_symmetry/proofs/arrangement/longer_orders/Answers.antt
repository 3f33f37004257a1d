use Rattle.table_symmetry.proofs.Names.{[], ap, append-nil, flat_map, flat_map-append, lists_in, same_sets, take_all, ◌∙◌}
use Rattle.table_symmetry.specs.Circle as maps
use Rattle.table_symmetry.proofs.Arranged.{lists-more, same_sets_decides}
use Rattle.table_symmetry.proofs.Distinct.{with_all-append, with_all-distinct}
use Rattle.table_symmetry.proofs.arrangement.longer_orders.Goals as goal

pub loop-list-preserved : goal.loop-list-preserved
loop-list-preserved c =
    let next = lists-more c.as_slice-list-items.result.now c.loop-list.list-index c.list-item.result c.loop-list-test.true c.list-item.is in
    rw (next, flat_map-append, append-nil, with_all-append same_sets same_sets_decides, ← c.deref.ensures.value, ← c.loop-list.invariant) c.in_ok-add_insertions.ensures

pub returns : goal.returns
returns c =
    let all = ap lists_in (take_all c.loop-list.list-index c.as_slice-list-items.result.now c.loop-list-test.false ∙ c.as_slice-list-items.ensures.keys) in
    rw all at c.loop-list.invariant ∙ with_all-distinct same_sets same_sets_decides [] (flat_map (maps.insertions c.args.set) (lists_in c.args.orders.now.lists.keys))
