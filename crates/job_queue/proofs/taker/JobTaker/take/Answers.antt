use Rattle.job_queue.proofs.Steps.{takes}
use Rattle.job_queue.proofs.taker.JobTaker.take.Goals as goal

pub recv_as-requires-clause-rule : goal.recv_as-requires-clause-rule
recv_as-requires-clause-rule g c = (takes _ _ c.self.invariant.1.0, λ _ _ _ _. tt)
