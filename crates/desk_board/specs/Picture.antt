-- What a snapshot shows.
use Rattle.std.specs.Prelude.{◌≡◌, ℕ, List, Option, IfSome, map}
use Rattle.std.specs.List.{AllByRecursion}
use Rattle.schedule.specs.declared.document.Bookmark.{Bookmark}
use Rattle.schedule.specs.Plan.{Plan}
use Rattle.schedule.specs.Scratch.{scratch}
use Rattle.dependency_book.specs.BookState.{BookState}
use Rattle.dependency_book.specs.ShownRows.{shown_rows}
use Rattle.desk_board.specs.declared.row.ShownRow.{ShownRow}

-- a document, and rows of bookmarks
pub record Picture : Type 0 where
  pub plan : Plan
  pub rows : List ShownRow

abbrev pub picture : Plan → List ShownRow → Picture
picture plan rows = record { plan = plan; rows = rows }

-- the row of a bookmark with its text, if there is one
abbrev pub row_of : Bookmark × Option (List ℕ) → ShownRow
row_of shown = record { bookmark = shown.0; text = shown.1 }

-- the document of a desk, and a row for each of its bookmarks with what is shown of it
abbrev pub picture_of : BookState → Picture
picture_of d = picture d.plan (map row_of (shown_rows d))

-- the bookmarks of rows
abbrev pub bookmarks_of : List ShownRow → List Bookmark
bookmarks_of rows = map (λ r. r.bookmark) rows

-- the text of a row, if it has one, is what starting over gives for its bookmark
abbrev pub IsCurrent : Plan → ShownRow → Type 0
IsCurrent p r = IfSome r.text (λ text. text ≡ scratch p r.bookmark)

-- a row for each bookmark of the document in order, and each text is what starting over gives
pub record IsRightPicture (s : Picture) : Type 0 where
  pub bookmarks : bookmarks_of s.rows ≡ s.plan.bookmarks
  pub right : AllByRecursion (IsCurrent s.plan) s.rows
