use Rattle.std.proofs.Common.{Some, ap, refl, rules}
use Rattle.desk_core.proofs.Steps.{GoesOn-issued, GoesOn-refused, no_cause}
use Rattle.desk_core.proofs.progress.Progress.issue.Goals as goal

pub returns-in-Ok-Some-clause-goes : goal.returns-in-Ok-Some-clause-goes
returns-in-Ok-Some-clause-goes g c = λ post.
    let issued = rw c.in-Ok-Some.field-0-is at c.in-Ok-Some.ensures.issued in
    GoesOn-issued _ _ post c.args.self.now _ _ (search rules) (no_cause _ (search rules)) issued.1

pub returns-in-Err-clause-goes : goal.returns-in-Err-clause-goes
returns-in-Err-clause-goes g c = λ post.
    GoesOn-refused _ _ post _ _ _ (no_cause _ (search rules)) refl
    (ap (λ cause. Some cause) c.of_issue.ensures) c.in-Err.ensures.refused
