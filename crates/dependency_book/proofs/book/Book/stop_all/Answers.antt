use Rattle.dependency_book.proofs.Outs.{all_own}
use Rattle.dependency_book.proofs.book.Book.stop_all.Goals as goal

pub raise_all-requires : goal.raise_all-requires
raise_all-requires c = rw c.deref.ensures.value (all_own c.self.invariant.held).arrivals

pub raise_all-requires-2 : goal.raise_all-requires-2
raise_all-requires-2 c = rw c.deref-2.ensures.value (all_own c.self.invariant.held).texts
