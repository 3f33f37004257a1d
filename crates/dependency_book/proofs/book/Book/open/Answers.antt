use Rattle.dependency_book.proofs.Shared.Opened.{opened_kept}
use Rattle.dependency_book.proofs.book.Book.open.Goals as goal

pub invariant_of-result : goal.invariant_of-result
invariant_of-result c =
    rw (
      c.in_ok-opening.ensures.opening,
      c.new.ensures.items,
      c.new-2.ensures.items,
      c.new-3.ensures.items,
      c.new-4.ensures.items,
      c.none.ensures,
      c.none-2.ensures,
      c.start.ensures,
      c.new-5.ensures,
    ) (opened_kept c.args.entries.now c.args.revision)

pub returns-clause-right : goal.returns-clause-right
returns-clause-right c = (invariant_of-result c).held.right
