use Rattle.std.proofs.Common.{◌≡◌, ◌≤◌}
use Rattle.job_pool_tests.proofs.tests.send_below.Given as goal

abbrev pub invariant-loop : goal.invariant-loop
invariant-loop g l = record {
  same : (g.P.Post.view l.post).table ≡ (g.P.Post.view l.fn.post).table;
  few : l.number ≤ l.counter;
}
