use Rattle.desk_server_tests.proofs.tests.board.answer_alone.Given as goal

abbrev pub ghosts-answer_shown-L-Ledger : goal.ghosts-answer_shown-L-Ledger
ghosts-answer_shown-L-Ledger g a = record { name = a.reader_blank.name; parts = a.reader_blank.parts }

abbrev pub ghosts-answer_shown-M-Ledger : goal.ghosts-answer_shown-M-Ledger
ghosts-answer_shown-M-Ledger g a = record { name = a.writer_blank.name; parts = a.writer_blank.parts }
