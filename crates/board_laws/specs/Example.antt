-- Worked pictures of a desk with one bookmark. They show that the law of what is told speaks of
-- something.
use Rattle.std.specs.Prelude.{ℕ, List, [], ◌∷◌, Option}
use Rattle.bookmarks.specs.declared.view.View.TheVariants.{Counts}
use Rattle.schedule.specs.declared.document.Bookmark.{Bookmark}
use Rattle.schedule.specs.Plan.{Plan, opening}
use Rattle.schedule.specs.Scratch.{scratch}
use Rattle.revision_jobs.specs.declared.entries.Entries.{Entries}
use Rattle.revision_jobs.specs.Posted.{PostView}
use Rattle.dependency_book.specs.BookState.{BookState, opened}
use Rattle.dependency_book.specs.declared.row.RowState.{RowState}
use Rattle.dependency_book.specs.declared.row.RowState.TheVariants.{Empty, Known}
use Rattle.dependency_book.specs.RowState.{known}
use Rattle.desk_board.specs.Picture.{Picture, picture}
use Rattle.desk_script.specs.Asks.{Obey}
use Rattle.desk_script.specs.declared.command.Command.TheVariants as command
use Rattle.desk_server.specs.Answer.{only}
use Rattle.desk_server.specs.Desks.{AnswersAt, standing}
use Rattle.desk_server.specs.Reply.{current_text, pending_text, settled_text}
use Rattle.board_laws.specs.Showings.{IsPictureAfter}

-- the counts at generation 0, marked in the opening document
abbrev pub counts : Bookmark
counts = record { id = 1; branch = 0; generation = 0; view = Counts }

abbrev pub marked : Plan
marked = record (opening 1) { bookmarks = counts ∷ []; last_bookmark = 1 }

-- what starting over gives for them
abbrev pub counted : List ℕ
counted = scratch marked counts

-- the desk where this stands for their text
abbrev pub desk_with : Entries → RowState (List ℕ) → BookState
desk_with table state = record (opened table 1) {
  plan = marked;
  texts = record { key = counts; state = state } ∷ [];
}

-- the picture with their text, or without
abbrev pub pictured : Option (List ℕ) → Picture
pictured text = picture marked (record { bookmark = counts; text = text } ∷ [])

-- a reply that leaves the document, and the picture of the desk at which it was given, where this
-- stands for the text
abbrev pub IsPictured : List ℕ → RowState (List ℕ) → Type 0
IsPictured told state =
    (table : Entries)
    → IsPictureAfter (only marked told) (desk_with table state) (pictured (known state))

-- where the text is known and looked at, over whatever post, the desk stays
abbrev pub IsPeeked : Type 0
IsPeeked =
    (post : PostView)
    → let stands = standing post (desk_with post.table (Known counted)) in
    AnswersAt (Obey (command.Peek 1), only marked (current_text 1 counted)) stands stands

-- with the text the desk may have told that all is settled, or shown it; without, that it is
-- pending
pub record PicturesOfOne : Type 0 where
  pub settled : IsPictured settled_text (Known counted)
  pub current : IsPictured (current_text 1 counted) (Known counted)
  pub pending : IsPictured (pending_text 1) Empty
  pub peeked : IsPeeked
