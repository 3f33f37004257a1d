-- What a desk holds.
use Rattle.std.specs.Prelude.{◌≡◌}
use Rattle.revision_jobs.specs.declared.entries.Entries.{Entries}
use Rattle.dependency_book.specs.BookState.{BookState}
use Rattle.dependency_book.specs.Right.{IsRightBook}

-- the jobs of its book are of its table, and what the book knows is right
pub record HoldsRight (entries : Entries) (d : BookState) : Type 0 where
  pub table : entries ≡ d.table
  pub right : IsRightBook d
