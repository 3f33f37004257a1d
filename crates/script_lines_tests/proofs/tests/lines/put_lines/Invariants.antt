use Rattle.script_lines_tests.proofs.tests.lines.put_lines.Given as goal

abbrev pub decreases-loop-found : goal.decreases-loop-found
decreases-loop-found g l = l.reader.ahead.room
