use Rattle.dependency_book.proofs.Outs.{first_out_is}
use Rattle.dependency_book.proofs.book.Book.first_out.Goals as goal

pub returns : goal.returns
returns c =
    rw (
      ← c.self.view_is,
      c.lesser.ensures,
      c.least_out.ensures,
      c.deref.ensures.value,
      c.least_out-2.ensures,
      c.deref-2.ensures.value,
    ) (first_out_is c.self.invariant.held)
