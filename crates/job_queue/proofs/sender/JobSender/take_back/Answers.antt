use Rattle.job_queue.proofs.Steps.{merges}
use Rattle.job_queue.proofs.sender.JobSender.take_back.Goals as goal

pub absorb-requires-clause-rule : goal.absorb-requires-clause-rule
absorb-requires-clause-rule c = merges _ _ _ _ c.self.invariant.2.0 c.into_pass.ensures.taker.0
