use Rattle.desk_server.proofs.Names.{DropsJobs, IsFirstOut, KeepsCalls, KeepsCauses, ◌≡◌}
use Rattle.dependency_book.specs.Right.{IsRightBook}
use Rattle.desk_core.specs.Settling.{KeepsKnown}
use Rattle.desk_server.proofs.Jobs.{numbers_from}
use Rattle.desk_server.proofs.serve.give_up.Given as goal

abbrev pub invariant-loop-first : goal.invariant-loop-first
invariant-loop-first l = record {
  plan : l.desk.plan ≡ l.fn.desk.plan;
  drops : DropsJobs l.fn.desk l.desk;
  causes : KeepsCauses l.fn.desk l.desk;
  calls : KeepsCalls l.fn.desk l.desk;
  known : KeepsKnown l.fn.desk l.desk;
  right : IsRightBook l.fn.desk → IsRightBook l.desk;
  first : IsFirstOut l.desk l.first;
}

abbrev pub decreases-loop-first : goal.decreases-loop-first
decreases-loop-first l = numbers_from l.first
