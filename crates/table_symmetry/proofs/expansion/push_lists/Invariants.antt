use Rattle.table_symmetry.proofs.Names.{lists_in, map, row_of, take, ◌++◌, ◌≡◌}
use Rattle.table_symmetry.proofs.expansion.push_lists.Given as goal

abbrev pub invariant-loop-list : goal.invariant-loop-list
invariant-loop-list l = l.rows.items ≡ l.initial.rows.items ++ map (row_of l.centre l.given) (lists_in (take l.list-index l.lists))
