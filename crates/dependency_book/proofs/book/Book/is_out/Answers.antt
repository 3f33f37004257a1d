use Rattle.std.proofs.Common.{◌∙◌, sym}
use Rattle.dependency_book.proofs.Outs.{any_out_is}
use Rattle.dependency_book.proofs.book.Book.is_out.Goals as goal

pub returns-then-any_out : goal.returns-then-any_out
returns-then-any_out c =
    let here = rw c.deref.ensures.value at (sym c.any_out.ensures ∙ c.if-any_out.true) in
    rw (← c.self.view_is, c.if-any_out.true) (rw here at (any_out_is c.self.invariant.held))

pub returns-else-any_out : goal.returns-else-any_out
returns-else-any_out c =
    let here = rw c.deref.ensures.value at (sym c.any_out.ensures ∙ c.if-any_out.false) in
    rw (← c.self.view_is, c.any_out-else-any_out.ensures, c.deref-else-any_out.ensures.value)
    (rw here at (any_out_is c.self.invariant.held))
