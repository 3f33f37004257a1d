-- What a book shows of a bookmark.
use Rattle.std.specs.Prelude.{◌≡◌, ℕ, List, None, Some, IsSome}
use Rattle.schedule.specs.declared.document.Bookmark.{Bookmark}
use Rattle.schedule.specs.Scratch.{scratch}
use Rattle.dependency_book.specs.BookState.{BookState, text_known}
use Rattle.desk_events.specs.Wanted.{bookmark_in}
use Rattle.dependency_book.specs.declared.shown.Shown.{Shown}
use Rattle.dependency_book.specs.declared.shown.Shown.TheVariants.{Current, Pending, NoSuch}

-- a current bookmark is shown with the text that is known of it, which is what starting over gives
pub record IsCurrent (d : BookState) (id : ℕ) (text : List ℕ) : Type 0 where
  pub bookmark : Bookmark
  pub there : bookmark_in d.plan.bookmarks id ≡ Some bookmark
  pub known : text_known d id ≡ Some text
  pub scratch_text : text ≡ scratch d.plan bookmark

-- a pending bookmark is one of the document of which no text is known
pub record IsPending (d : BookState) (id : ℕ) : Type 0 where
  pub there : IsSome (bookmark_in d.plan.bookmarks id)
  pub unknown : text_known d id ≡ None

-- what is shown of the bookmark of an id
abbrev pub Shows : BookState → ℕ → Shown → Type 0
Shows d id (Current text) = IsCurrent d id text.now
Shows d id Pending = IsPending d id
Shows d id NoSuch = bookmark_in d.plan.bookmarks id ≡ None
