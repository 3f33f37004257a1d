-- Rows made anew from keys.
use Rattle.std.specs.Prelude.{◌≡◌, ℕ, Bool, List, Option, None, Some, if◌then◌else◌}
use Rattle.schedule.specs.Plan.{Plan}
use Rattle.schedule.specs.Sound.{IsSound}
use Rattle.dependency_book.specs.declared.row.RowState.{RowState}
use Rattle.dependency_book.specs.declared.row.RowState.TheVariants.{Empty}
use Rattle.dependency_book.specs.declared.row.Row.{Row}
use Rattle.desk_events.specs.declared.mark.Mark.{Mark}
use Rattle.dependency_book.specs.declared.remade.Rows.{Rows}
use Rattle.document_marks.specs.AllMarks.{AreMarksOf, mark_rank}
use Rattle.dependency_book.specs.Held.{places_of}
use Rattle.dependency_book.specs.Kept.{mark_stays, bookmark_stays}
use Rattle.dependency_book.specs.Rows.{ArrivalRow, TextRow, bookmark_rank, by_key}
use Rattle.ranked_rows.specs.Rows.{remade}

-- what stood in an old row, if there was one whose key passes a test, else nothing
abbrev pub kept_of : {K V : Type 0} → (K → Bool) → Option (Row K V) → RowState V
kept_of stays None = Empty
kept_of stays (Some r) = if stays r.key then r.state else Empty

-- the row of a key: what stood in the old row of its rank, if that stays
abbrev pub remade_row : {K V : Type 0} → (K → K → Bool) → K → Option (Row K V) → Row K V
remade_row stays key old = record { key = key; state = kept_of (stays key) old }

-- the rows of keys, of which some stay among the old ones
abbrev pub remade_rows : {K V : Type 0} →
    (K → ℕ) → (K → K → Bool) → List (Row K V) → List K → List (Row K V)
remade_rows rank stays old keys = remade rank (by_key rank) (remade_row stays) old keys

-- the rows of a document's marks and bookmarks, made of old ones after an edit that is felt from a
-- mark on, with the places of the bookmarks' marks
pub record AreRemade (p : Plan) (arrivals : List ArrivalRow) (texts : List TextRow)
    (felt : Option Mark) (rows : Rows) : Type 0 where
  pub sound : IsSound p
  pub marks : List Mark
  pub are : AreMarksOf p marks
  pub arrivals_are :
      rows.arrivals.items
      ≡ remade_rows mark_rank (mark_stays p.branches felt) arrivals marks
  pub texts_are :
      rows.texts.items
      ≡ remade_rows bookmark_rank (bookmark_stays p.branches felt) texts p.bookmarks
  pub places_are : rows.places.items ≡ places_of rows.arrivals.items p.bookmarks
