use Rattle.std.proofs.Common.{length}
use Rattle.script_lines_tests.proofs.tests.lines.put_words.Given as goal

abbrev pub decreases-loop-word : goal.decreases-loop-word
decreases-loop-word g l = length l.rest
