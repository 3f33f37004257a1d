use Rattle.decision_tree.proofs.Names.{filter, is_word, length, map, numbers_in, option_map, saturated, words, ◌≡◌}
use Rattle.decision_tree.proofs.KeptNumbers.{with_front}
use Rattle.decision_tree.proofs.numbers.read_numbers.Given as goal

abbrev pub invariant-loop-piece : goal.invariant-loop-piece
invariant-loop-piece l = with_front l.numbers.items (numbers_in (filter is_word l.pieces)) ≡ option_map (map saturated) (numbers_in (words l.line))

abbrev pub decreases-loop-piece : goal.decreases-loop-piece
decreases-loop-piece l = length l.pieces
