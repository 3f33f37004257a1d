use Rattle.job_queue.proofs.Steps.{forks}
use Rattle.job_queue.proofs.queue.another_taker.Goals as goal

pub another-theirs-requires-clause-rule : goal.another-theirs-requires-clause-rule
another-theirs-requires-clause-rule c = forks _ _ c.requires.lender
