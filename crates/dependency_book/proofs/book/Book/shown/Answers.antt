use Rattle.std.proofs.Common.{◌∙◌, Some, sym, ap}
use Rattle.dependency_book.proofs.Showing.{is_current, is_pending, is_absent}
use Rattle.dependency_book.proofs.book.Book.shown.Goals as goal

pub returns-in-Some-known : goal.returns-in-Some-known
returns-in-Some-known c =
    rw (← c.self.view_is)
    (is_current c.self.invariant.held c.args.id c.in-Some.row.now c.as_slice.result.now
    (rw (c.from.ensures, c.deref.ensures.value) at c.in-Some.ensures)
    (c.in-Some-known.ensures ∙ ap (λ bytes. Some bytes) (sym c.as_slice.ensures)))

pub returns-in-None-known : goal.returns-in-None-known
returns-in-None-known c =
    rw (← c.self.view_is)
    (is_pending c.self.invariant.held c.args.id c.in-Some.row.now
    (rw (c.from.ensures, c.deref.ensures.value) at c.in-Some.ensures) c.in-None-known.ensures)

pub returns-in-None : goal.returns-in-None
returns-in-None c =
    rw (← c.self.view_is)
    (is_absent c.self.invariant.held c.args.id
    (rw (c.from.ensures, c.deref.ensures.value) at c.in-None.ensures))
