use Rattle.std.proofs.Common.{◌≡◌}
use Rattle.job_pool.proofs.inbox.Inbox.watch.Given as goal

abbrev pub invariant-loop : goal.invariant-loop
invariant-loop g l = record { same : l.self ≡ l.fn.self }
