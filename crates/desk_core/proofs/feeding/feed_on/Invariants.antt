use Rattle.dependency_book.specs.BookState.{empty_rows_of}
use Rattle.desk_core.proofs.Fed.{HasFed}
use Rattle.desk_core.proofs.feeding.feed_on.Given as goal

abbrev pub invariant-loop-job : goal.invariant-loop-job
invariant-loop-job g l = record {
  fed : HasFed l.initial.desk l.desk (g.P.Post.view l.initial.post) (g.P.Post.view l.post) l.taken;
}

abbrev pub decreases-loop-job : goal.decreases-loop-job
decreases-loop-job g l = empty_rows_of l.desk
