use Rattle.desk_program_tests.proofs.tests.begun.Given as goal

abbrev pub ghosts-start-L-Ledger : goal.ghosts-start-L-Ledger
ghosts-start-L-Ledger g a = record { name = a.devices.reader_blank.name; parts = a.devices.reader_blank.parts }

abbrev pub ghosts-start-M-Ledger : goal.ghosts-start-M-Ledger
ghosts-start-M-Ledger g a = record { name = a.devices.writer_blank.name; parts = a.devices.writer_blank.parts }
