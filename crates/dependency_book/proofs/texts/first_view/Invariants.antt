use Rattle.dependency_book.specs.Ready.{NoneBefore, viewable}
use Rattle.dependency_book.proofs.texts.first_view.Given as goal

abbrev pub invariant-loop-index : goal.invariant-loop-index
invariant-loop-index l = NoneBefore (viewable l.arrivals l.texts l.places) l.index
