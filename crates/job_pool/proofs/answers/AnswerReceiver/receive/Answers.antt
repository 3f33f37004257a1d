use Rattle.job_pool.proofs.Homes.{takes}
use Rattle.job_pool.proofs.answers.AnswerReceiver.receive.Goals as goal

pub recv_as-requires-clause-rule : goal.recv_as-requires-clause-rule
recv_as-requires-clause-rule g c = (takes _ _, λ _ _ _ _. tt)
