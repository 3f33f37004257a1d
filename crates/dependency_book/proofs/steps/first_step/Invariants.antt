use Rattle.dependency_book.specs.Ready.{NoneBefore, steppable}
use Rattle.dependency_book.proofs.steps.first_step.Given as goal

abbrev pub invariant-loop-place : goal.invariant-loop-place
invariant-loop-place l = NoneBefore (steppable l.document.branches l.arrivals) l.place
