use Rattle.macrocell_lines.proofs.Names.{filter, is_word, length, ◌≡◌}
use Rattle.macrocell_lines.proofs.numbers.next_word.Given as goal

abbrev pub invariant-loop-piece : goal.invariant-loop-piece
invariant-loop-piece l = filter is_word l.pieces ≡ filter is_word l.fn.pieces

abbrev pub decreases-loop-piece : goal.decreases-loop-piece
decreases-loop-piece l = length l.pieces
