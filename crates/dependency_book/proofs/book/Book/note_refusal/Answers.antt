use Rattle.dependency_book.proofs.Working.{kept_noted}
use Rattle.dependency_book.proofs.book.Book.note_refusal.Goals as goal

pub invariant_of-self : goal.invariant_of-self
invariant_of-self c = rw c.note.ensures (kept_noted _ _ _ c.self.invariant.facts c.self.invariant)

pub returns-clause-noted : goal.returns-clause-noted
returns-clause-noted c = rw (c.note.ensures, ← c.self.view_is)

pub returns-clause-right : goal.returns-clause-right
returns-clause-right c = (invariant_of-self c).held.right
