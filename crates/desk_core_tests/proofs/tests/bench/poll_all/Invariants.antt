use Rattle.std.proofs.Common.{◌≡◌}
use Rattle.desk_core.specs.Settling.{Serves}
use Rattle.desk_core_tests.proofs.tests.bench.poll_all.Given as goal

abbrev pub invariant-loop-pending : goal.invariant-loop-pending
invariant-loop-pending g l = record {
  serves : Serves l.desk l.post;
  same : l.desk.table ≡ l.initial.desk.table;
}
