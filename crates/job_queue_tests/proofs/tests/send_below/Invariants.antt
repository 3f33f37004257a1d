use Rattle.std.proofs.Common.{◌≡◌}
use Rattle.job_queue.specs.Ends.{with_sent}
use Rattle.job_queue_tests.proofs.tests.send_below.Given as goal

abbrev pub invariant-loop-number : goal.invariant-loop-number
invariant-loop-number g l = l.sender ≡ with_sent l.sender.sent l.fn.sender
