use Rattle.table_lines.proofs.Names.{head_from, length, undescribed, ◌≡◌}
use Rattle.table_lines.proofs.descriptors.read_head.Given as goal

abbrev pub invariant-loop-left : goal.invariant-loop-left
invariant-loop-left l = head_from l.described l.left ≡ head_from undescribed l.fn.lines

abbrev pub decreases-loop-left : goal.decreases-loop-left
decreases-loop-left l = length l.left
