-- The change that an edit asks of a book, before it is made.
use Rattle.std.specs.Prelude.{◌≡◌, ℕ, ◌+◌, ◌≤◌, [], length, None, vec_capacity}
use Rattle.schedule.specs.Asked.{Asked, asked_of}
use Rattle.schedule.specs.Change.{refusal}
use Rattle.schedule.specs.Plan.{Plan}
use Rattle.document_marks.specs.MostMarks.{marks_at_most_after}
use Rattle.dependency_book.specs.declared.change.Change.{Change}
use Rattle.dependency_book.specs.declared.remade.Room.{Room}
use Rattle.dependency_book.specs.BookState.{BookState}
use Rattle.dependency_book.specs.Felt.{BookFeels}

-- a room is empty, and has places for so many marks and bookmarks
pub record HasPlaces (room : Room) (marks_there bookmarks_there : ℕ) : Type 0 where
  pub no_marks : room.marks.items ≡ []
  pub no_arrivals : room.rows.arrivals.items ≡ []
  pub no_texts : room.rows.texts.items ≡ []
  pub no_places : room.rows.places.items ≡ []
  pub marks : marks_there ≤ vec_capacity room.marks
  pub arrivals : marks_there ≤ vec_capacity room.rows.arrivals
  pub texts : bookmarks_there ≤ vec_capacity room.rows.texts
  pub places : bookmarks_there ≤ vec_capacity room.rows.places

-- it has places for the document after an edit, which has at most one more bookmark
abbrev pub HasRoomAfter : Plan → Asked → Room → Type 0
HasRoomAfter p asked room =
    HasPlaces room (marks_at_most_after p asked) (length p.bookmarks + 1)

-- the change is this edit, which fits; it says from where the edit is felt, and has room
pub record IsPlanned (d : BookState) (asked : Asked) (change : Change) : Type 0 where
  pub is : asked_of change.edit.now ≡ asked
  pub fits : refusal d.plan asked ≡ None
  pub felt : BookFeels d asked change.felt
  pub room : HasRoomAfter d.plan asked change.room
