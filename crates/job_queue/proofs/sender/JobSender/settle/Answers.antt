use Rattle.std.proofs.Common.{◌≡◌, subst, sym}
use Rattle.job_queue.specs.Ends.{Sending}
use Rattle.job_queue.proofs.Steps.{settles}
use Rattle.job_queue.proofs.sender.JobSender.settle.Goals as goal

pub learn_as-requires-clause-rule : goal.learn_as-requires-clause-rule
learn_as-requires-clause-rule c =
    settles _ _ c.self.invariant.2 (subst (λ (m : Sending). m.out ≡ 0) (sym c.self.view_is) c.requires)
