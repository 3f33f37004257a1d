use Rattle.std.proofs.Common.{ap}
use Rattle.job_queue.specs.declared.rule.EndView.{EndView}
use Rattle.job_queue.proofs.Steps.{begins, names}
use Rattle.job_queue.proofs.queue.queue_of.Goals as goal

pub bounded_with-requires-clause-rule : goal.bounded_with-requires-clause-rule
bounded_with-requires-clause-rule g c = begins

pub another-first-requires-clause-rule : goal.another-first-requires-clause-rule
another-first-requires-clause-rule g c =
    let e = c.in_ok-end.ensures.3 in
    names _ _ _ (ap (λ (v : EndView). v.sends) e) (ap (λ (v : EndView). v.table) e) (ap (λ (v : EndView). v.taken) e)
