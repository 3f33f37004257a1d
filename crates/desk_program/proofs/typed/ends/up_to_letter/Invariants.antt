use Rattle.std.proofs.Common.{length}
use Rattle.desk_program.proofs.typed.ends.up_to_letter.Given as goal

abbrev pub decreases-loop-left : goal.decreases-loop-left
decreases-loop-left l = length l.left
