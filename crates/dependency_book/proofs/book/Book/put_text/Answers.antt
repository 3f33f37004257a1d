use Rattle.dependency_book.specs.Inside.{state_of}
use Rattle.dependency_book.proofs.Passed.{kept_text}
use Rattle.dependency_book.proofs.Putting.{text_puts}
use Rattle.dependency_book.proofs.book.Book.put_text.Goals as goal

pub invariant_of-self : goal.invariant_of-self
invariant_of-self c =
    rw (c.put.ensures, c.from.ensures, c.if_stays-self-inside.ensures, c.is_empty.ensures)
    (kept_text c.self.invariant c.args.id c.args.state (rw (← c.self.view_is) at c.requires))

pub returns-clause-row : goal.returns-clause-row
returns-clause-row c =
    let can = rw (← c.self.view_is) at c.requires in
    rw (← c.self.view_is, c.put.ensures, c.from.ensures)
    (text_puts (state_of c.self.inside) c.args.id c.args.state c.self.invariant.held.right.bookmarks
    can.there)

pub returns-clause-right : goal.returns-clause-right
returns-clause-right c = (invariant_of-self c).held.right
