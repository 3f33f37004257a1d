-- The bookmarks of a book with their texts, one after another.
use Rattle.std.specs.Prelude.{◌≡◌, ℕ, List, Option, IfSome, map}
use Rattle.schedule.specs.declared.document.Bookmark.{Bookmark}
use Rattle.schedule.specs.Plan.{Plan}
use Rattle.schedule.specs.Scratch.{scratch}
use Rattle.dependency_book.specs.BookState.{BookState, text_known}
use Rattle.dependency_book.specs.RowState.{known}
use Rattle.dependency_book.specs.Rows.{TextRow}

-- a bookmark with the text that stands in its row, if one does
abbrev pub handed : TextRow → Bookmark × Option (List ℕ)
handed r = (r.key, known r.state)

-- a bookmark with the text that is known of it
abbrev pub shown_row : BookState → Bookmark → Bookmark × Option (List ℕ)
shown_row d b = (b, text_known d b.id)

-- so is each bookmark of the document, in order
abbrev pub shown_rows : BookState → List (Bookmark × Option (List ℕ))
shown_rows d = map (shown_row d) d.plan.bookmarks

-- the text, if there is one, is what starting over gives for the bookmark
abbrev pub IsScratch : Plan → Bookmark × Option (List ℕ) → Type 0
IsScratch p r = IfSome r.1 (λ text. text ≡ scratch p r.0)
