use Rattle.text_lines.proofs.Names.{length, trim_end, ◌≡◌}
use Rattle.text_lines.proofs.blanks.trim_end.Given as goal

abbrev pub invariant-loop-left : goal.invariant-loop-left
invariant-loop-left l = trim_end l.left ≡ trim_end l.bytes

abbrev pub decreases-loop-left : goal.decreases-loop-left
decreases-loop-left l = length l.left
