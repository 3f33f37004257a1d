use Rattle.desk_server_tests.proofs.tests.answer_over.Given as goal

abbrev pub ghosts-answer_counted-L-Ledger : goal.ghosts-answer_counted-L-Ledger
ghosts-answer_counted-L-Ledger g a = record { name = a.reader_blank.name; parts = a.reader_blank.parts }

abbrev pub ghosts-answer_counted-M-Ledger : goal.ghosts-answer_counted-M-Ledger
ghosts-answer_counted-M-Ledger g a = record { name = a.writer_blank.name; parts = a.writer_blank.parts }
