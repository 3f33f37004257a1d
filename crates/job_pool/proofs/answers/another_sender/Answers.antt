use Rattle.job_pool.proofs.Homes.{forks}
use Rattle.job_pool.proofs.answers.another_sender.Goals as goal

pub another-theirs-requires-clause-rule : goal.another-theirs-requires-clause-rule
another-theirs-requires-clause-rule c = forks _ _ _ c.requires.tabled
