use Rattle.text_lines.proofs.Names.{length, trim_start, ◌≡◌}
use Rattle.text_lines.proofs.blanks.trim_start.Given as goal

abbrev pub invariant-loop-left : goal.invariant-loop-left
invariant-loop-left l = trim_start l.left ≡ trim_start l.bytes

abbrev pub decreases-loop-left : goal.decreases-loop-left
decreases-loop-left l = length l.left
