use Rattle.dependency_book.proofs.Handed.{are_scratch, handed_rows}
use Rattle.dependency_book.proofs.book.Book.rows.Goals as goal

pub returns-clause-rows : goal.returns-clause-rows
returns-clause-rows c = rw (c.deref.ensures.value, ← c.self.view_is) (handed_rows c.self.invariant.held)

pub returns-clause-right : goal.returns-clause-right
returns-clause-right c = rw (c.deref.ensures.value, ← c.self.view_is) (are_scratch c.self.invariant.held)
