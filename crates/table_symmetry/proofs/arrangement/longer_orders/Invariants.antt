use Rattle.table_symmetry.proofs.Names.{[], flat_map, lists_in, same_sets, take, with_all, ◌≡◌}
use Rattle.table_symmetry.specs.Circle as maps
use Rattle.table_symmetry.proofs.arrangement.longer_orders.Given as goal

abbrev pub invariant-loop-list : goal.invariant-loop-list
invariant-loop-list l = lists_in l.longer.lists.keys ≡ with_all same_sets [] (flat_map (maps.insertions l.set) (lists_in (take l.list-index l.list-items)))
