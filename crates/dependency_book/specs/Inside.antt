-- What the fields of a book say.
use Rattle.dependency_book.specs.declared.book.Book.TheInside.{Inside}
use Rattle.std.specs.Prelude.{map}
use Rattle.revision_jobs.specs.Entries.{index_of}
use Rattle.dependency_book.specs.BookState.{BookState}
use Rattle.dependency_book.specs.Said.{said_at}

abbrev pub state_of : Inside → BookState
state_of book = record {
  table = book.entries.now;
  plan = book.document;
  entries = map said_at book.issued.items;
  indices = map index_of book.issued.items;
  arrivals = book.arrivals.items;
  texts = book.texts.items;
  refused = book.refused;
  facts = book.facts.list;
  missed = book.missed;
}
