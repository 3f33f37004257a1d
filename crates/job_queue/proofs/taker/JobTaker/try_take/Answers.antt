use Rattle.job_queue.proofs.Steps.{takes}
use Rattle.job_queue.proofs.taker.JobTaker.try_take.Goals as goal

pub try_recv_as-requires-clause-rule : goal.try_recv_as-requires-clause-rule
try_recv_as-requires-clause-rule g c = (takes _ _ c.self.invariant.1.0, λ _ _ _ _. tt)
