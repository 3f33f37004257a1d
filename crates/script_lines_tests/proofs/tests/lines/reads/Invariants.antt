use Rattle.script_lines_tests.proofs.tests.lines.reads.Given as goal

abbrev pub ghosts-is_read : goal.ghosts-is_read
ghosts-is_read g a = record { name = a.blank.name; parts = a.blank.parts }
