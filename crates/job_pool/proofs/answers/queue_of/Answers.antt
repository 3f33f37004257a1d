use Rattle.job_pool.proofs.Homes.{begins, names}
use Rattle.job_pool.proofs.answers.queue_of.Goals as goal

pub bounded_with-requires-clause-rule : goal.bounded_with-requires-clause-rule
bounded_with-requires-clause-rule g c = begins

pub another-theirs-requires-clause-rule : goal.another-theirs-requires-clause-rule
another-theirs-requires-clause-rule g c = names _ _ _ c.in_ok-end.ensures.3
