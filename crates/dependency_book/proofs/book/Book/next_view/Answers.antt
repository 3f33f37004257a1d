use Rattle.dependency_book.proofs.Needed.{no_view, view_next}
use Rattle.dependency_book.proofs.book.Book.next_view.Goals as goal

pub returns-in-Some-clause-next : goal.returns-in-Some-clause-next
returns-in-Some-clause-next c =
    view_next c.self.invariant.held c.in-Some.place c.index.result.now c.index.ensures
    (rw (c.deref.ensures.value, c.deref-2.ensures.value, c.deref-3.ensures.value) at c.in-Some.ensures)

pub returns-in-None-clause-next : goal.returns-in-None-clause-next
returns-in-None-clause-next c =
    no_view c.self.invariant.held
    (rw (c.deref.ensures.value, c.deref-2.ensures.value, c.deref-3.ensures.value) at c.in-None.ensures)
