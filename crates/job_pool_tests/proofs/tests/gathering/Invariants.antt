use Rattle.std.proofs.Common.{◌≡◌, vec_len}
use Rattle.job_pool_tests.proofs.tests.gathering.Given as goal

abbrev pub invariant-loop : goal.invariant-loop
invariant-loop g l = vec_len l.gates ≡ l.counter
