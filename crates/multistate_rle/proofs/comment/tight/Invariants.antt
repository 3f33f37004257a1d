use Rattle.multistate_rle.proofs.Names.{length, tight, true, ◌++◌, ◌≡◌}
use Rattle.multistate_rle.proofs.comment.tight.Given as goal

abbrev pub invariant-loop-left : goal.invariant-loop-left
invariant-loop-left l = l.kept.items ++ tight l.joined l.left ≡ tight true l.bytes

abbrev pub decreases-loop-left : goal.decreases-loop-left
decreases-loop-left l = length l.left
