use Rattle.job_queue.proofs.queue.job_queue.Given as goal

abbrev pub ghosts-queue_of : goal.ghosts-queue_of
ghosts-queue_of a = record { table = a.entries.now }
