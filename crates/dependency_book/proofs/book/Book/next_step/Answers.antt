use Rattle.dependency_book.proofs.Found.{held_back}
use Rattle.dependency_book.proofs.Needed.{no_step, step_next}
use Rattle.dependency_book.proofs.book.Book.next_step.Goals as goal

pub first_step-requires-clause-held_back : goal.first_step-requires-clause-held_back
first_step-requires-clause-held_back c = rw c.deref.ensures.value (held_back c.self.invariant.held)

pub returns-in-Some-clause-next : goal.returns-in-Some-clause-next
returns-in-Some-clause-next c =
    step_next c.self.invariant.held c.in-Some.place c.index.result.now c.index.ensures
    (rw c.deref.ensures.value at c.in-Some.ensures)

pub returns-in-None-clause-next : goal.returns-in-None-clause-next
returns-in-None-clause-next c = no_step c.self.invariant.held (rw c.deref.ensures.value at c.in-None.ensures)
