use Rattle.dependency_book.proofs.Names.{BookIsUnfeltWhere, asked_of, ◌↔◌}
use Rattle.dependency_book.proofs.Unfelt.{IsUnfeltEach}
use Rattle.dependency_book.proofs.book.Book.is_unfelt_where.Given as goal

abbrev pub invariant-loop-generation : goal.invariant-loop-generation
invariant-loop-generation l = IsUnfeltEach l.self (asked_of l.edit) l.branch l.generation-iterator
    ↔ BookIsUnfeltWhere l.self (asked_of l.edit) l.branch l.fn.acts
