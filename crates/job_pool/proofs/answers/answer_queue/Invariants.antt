use Rattle.job_pool.specs.Home.{terms_of}
use Rattle.job_pool.proofs.answers.answer_queue.Given as goal

abbrev pub ghosts-queue_of : goal.ghosts-queue_of
ghosts-queue_of a = record { terms = terms_of a.entries.now a.limit }
