use Rattle.std.proofs.Common.{length}
use Rattle.script_lines_tests.proofs.tests.lines.word_count.Given as goal

abbrev pub decreases-loop-behind : goal.decreases-loop-behind
decreases-loop-behind l = length l.rest
