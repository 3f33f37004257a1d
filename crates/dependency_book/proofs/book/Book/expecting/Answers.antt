use Rattle.dependency_book.specs.Inside.{state_of}
use Rattle.dependency_book.proofs.Outs.{expecting_none, expects_mark, expects_text}
use Rattle.dependency_book.proofs.book.Book.expecting.Goals as goal

pub returns-in-Some-clause-row : goal.returns-in-Some-clause-row
returns-in-Some-clause-row c =
    let found = rw c.deref.ensures.value at c.in-Some.ensures in
    rw (c.step.ensures, ← c.self.view_is)
    (expects_mark c.self.invariant.held c.args.number c.in-Some.mark c.in-Some.place.now found).0

pub returns-in-Some-clause-own : goal.returns-in-Some-clause-own
returns-in-Some-clause-own c =
    let found = rw c.deref.ensures.value at c.in-Some.ensures in
    rw (← c.self.view_is)
    (expects_mark c.self.invariant.held c.args.number c.in-Some.mark c.in-Some.place.now found).1

pub returns-in_err-bookmark-clause-row : goal.returns-in_err-bookmark-clause-row
returns-in_err-bookmark-clause-row c =
    rw (c.from_residual.ensures, ← c.self.view_is)
    (expecting_none (state_of c.self.inside) c.args.number (rw c.deref.ensures.value at c.in_default.ensures)
    (rw c.deref-2.ensures.value at c.in_err-bookmark.ensures))

pub returns-clause-row : goal.returns-clause-row
returns-clause-row c =
    let found = rw c.deref-2.ensures.value at c.in_ok-bookmark.ensures in
    rw (← c.self.view_is)
    (expects_text c.self.invariant.held c.args.number c.in_ok-bookmark.bookmark c.in_ok-bookmark.place.now
    found).0

pub returns-clause-own : goal.returns-clause-own
returns-clause-own c =
    let found = rw c.deref-2.ensures.value at c.in_ok-bookmark.ensures in
    rw (← c.self.view_is)
    (expects_text c.self.invariant.held c.args.number c.in_ok-bookmark.bookmark c.in_ok-bookmark.place.now
    found).1
