use Rattle.script_lines_tests.proofs.tests.texts.show.Given as goal

abbrev pub ghosts-show_counted : goal.ghosts-show_counted
ghosts-show_counted g a = record { name = a.blank.name; parts = a.blank.parts }
