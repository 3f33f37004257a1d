use Rattle.desk_core.proofs.Fed.{HasFed-first, HasFed-taken, fed-ended, fed-refused, fed-unissued}
use Rattle.desk_core.proofs.feeding.feed_on.Goals as goal

pub loop-job-init : goal.loop-job-init
loop-job-init g c = record { fed = HasFed-first _ _ c.requires }

pub loop-job-preserved : goal.loop-job-preserved
loop-job-preserved g c =
    let issued = rw c.in-Ok-Some.field-0-is at c.in-Ok-Some.ensures.issued in
    record { fed = HasFed-taken _ _ _ _ _ _ _ _ _ issued.1 c.in-Taken.ensures c.loop-job.invariant.fed }

pub returns-in-Ok-None : goal.returns-in-Ok-None
returns-in-Ok-None g c =
    let none = rw c.in-Ok-None.field-0-is at c.in-Ok-None.ensures.issued in
    fed-ended _ _ _ _ _ _ none c.issue.ensures.right c.loop-job.invariant.fed

pub returns-in-Err : goal.returns-in-Err
returns-in-Err g c =
    fed-unissued _ _ _ _ _ _ _ c.in-Err.ensures.refused c.issue.ensures.right c.loop-job.invariant.fed

pub returns-in_default : goal.returns-in_default
returns-in_default g c =
    let issued = rw c.in-Ok-Some.field-0-is at c.in-Ok-Some.ensures.issued in
    fed-refused _ _ _ _ _ _ _ _ _ _ _ issued.1 c.issue.ensures.right
    (record { rows = c.cancel.ensures.rows; book = c.cancel.ensures.book; event = c.cancel.ensures.event })
    c.in_default.not-Taken c.send.ensures c.loop-job.invariant.fed c.cancel.ensures.right
