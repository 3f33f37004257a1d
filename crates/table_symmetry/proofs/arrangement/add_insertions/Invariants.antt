use Rattle.table_symmetry.proofs.Names.{drop, lists_in, map, range_with_len, same_sets, take, with_all, ◌++◌, ◌∷◌, ◌≡◌}
use Rattle.table_symmetry.proofs.arrangement.add_insertions.Given as goal

abbrev pub invariant-loop-place : goal.invariant-loop-place
invariant-loop-place l = lists_in l.lists.keys ≡ with_all same_sets (lists_in l.initial.lists.keys) (map (λ i. take i l.list ++ l.set ∷ drop i l.list) (range_with_len 0 l.place))
