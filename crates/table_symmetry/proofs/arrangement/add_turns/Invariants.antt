use Rattle.table_symmetry.proofs.Names.{length, lists_in, map, range_with_len, same_sets, with_all, ◌*◌, ◌/◌, ◌≡◌}
use Rattle.table_symmetry.specs.Circle as maps
use Rattle.table_symmetry.proofs.arrangement.add_turns.Given as goal

abbrev pub invariant-loop-turn : goal.invariant-loop-turn
invariant-loop-turn l = lists_in l.lists.items ≡ with_all same_sets (lists_in l.initial.lists.items) (map (λ i. maps.turned (i * (length l.circle / l.count)) l.circle) (range_with_len 0 l.turn))
