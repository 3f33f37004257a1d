-- How a book holds what it knows.
use Rattle.std.specs.Prelude.{◌≡◌, ℕ, List, map}
use Rattle.schedule.specs.declared.document.Bookmark.{Bookmark}
use Rattle.dependency_book.specs.BookState.{BookState}
use Rattle.desk_events.specs.Marks.{bookmark_mark}
use Rattle.dependency_book.specs.Right.{IsRightBook}
use Rattle.dependency_book.specs.Rows.{ArrivalRow, IsRanked, bookmark_rank, by_key}
use Rattle.ranked_rows.specs.Rows.{place_in}
use Rattle.document_marks.specs.AllMarks.{mark_rank}

-- the places of bookmarks' marks among the rows
abbrev pub places_of : List ArrivalRow → List Bookmark → List ℕ
places_of arrivals bookmarks =
    map (λ (b : Bookmark). place_in (by_key mark_rank) (mark_rank (bookmark_mark b)) arrivals)
    bookmarks

-- the book is right, the ranks of its rows rise, and the places are those of the bookmarks' marks
pub record IsHeldBook (d : BookState) (found : List ℕ) : Type 0 where
  pub places : found ≡ places_of d.arrivals d.plan.bookmarks
  pub right : IsRightBook d
  pub marks_rise : IsRanked mark_rank d.arrivals
  pub ids_rise : IsRanked bookmark_rank d.texts
