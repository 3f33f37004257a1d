-- What an edit keeps of what is known.
use Rattle.std.specs.Prelude.{◌≡◌, ℕ, Bool, ◌&&◌, List, Option, None, Some, if◌then◌else◌, ◌==◌}
use Rattle.worlds.specs.World.{World}
use Rattle.schedule.specs.declared.document.Bookmark.{Bookmark}
use Rattle.schedule.specs.declared.branch.Branch.{Branch}
use Rattle.schedule.specs.Plan.{Plan}
use Rattle.schedule.specs.Asked.{Asked}
use Rattle.dependency_book.specs.declared.row.RowState.{RowState}
use Rattle.dependency_book.specs.declared.row.RowState.TheVariants.{Empty, Known}
use Rattle.desk_events.specs.declared.mark.Mark.{Mark}
use Rattle.desk_events.specs.Marks.{bookmark_mark, is_start}
use Rattle.dependency_book.specs.BookState.{BookState, SameFacts, arrival_row, arrival_known, text_row}
use Rattle.desk_events.specs.Wanted.{bookmark_in}
use Rattle.desk_events.specs.Felt.{IsFelt}
use Rattle.desk_events.specs.Kept.{keeps_arrival, leaves_after, keeps_text, stays_mark}

-- whether what stands at a mark stays
abbrev pub mark_stays : List Branch → Option Mark → Mark → Mark → Bool
mark_stays branches felt m was = keeps_arrival branches felt m

-- whether what stands for a bookmark stays, which was at another generation if it was moved
abbrev pub bookmark_stays : List Branch → Option Mark → Bookmark → Bookmark → Bool
bookmark_stays branches felt b was =
    leaves_after branches felt (bookmark_mark b) && (was.generation == b.generation)

-- what stays of what stands for a bookmark of the document before an edit
abbrev pub text_kept : {V : Type 0} →
    List Branch → Option Mark → Asked → Option Bookmark → RowState V → RowState V
text_kept branches felt asked None state = Empty
text_kept branches felt asked (Some b) state =
    if keeps_text branches felt asked b then state else Empty

-- what stays of what stands at a mark but the start
abbrev pub arrival_kept : {V : Type 0} →
    Option Mark → Plan → Plan → Mark → RowState V → RowState V
arrival_kept felt p q m state = if stays_mark felt p q m then state else Empty

-- what stands at a mark after an edit that gives the document q: the start at its own, and what the
-- edit keeps at others
abbrev pub arrival_after : Option Mark → Plan → Plan → Mark → RowState World → RowState World
arrival_after felt p q m state =
    if is_start m then Known q.start else arrival_kept felt p q m state

-- what stands after an edit that is felt from a mark on, known or out: at the marks that it leaves
-- what it keeps of the arrivals, for the bookmarks that it leaves what it keeps of the texts, and
-- nothing else
pub record KeepsRows (asked : Asked) (felt : Option Mark) (old new : BookState) : Type 0 where
  pub table : new.table ≡ old.table
  pub entries : new.entries ≡ old.entries
  pub indices : new.indices ≡ old.indices
  pub remembered : SameFacts old new
  pub arrivals : (m : Mark) →
      arrival_row new m ≡ arrival_after felt old.plan new.plan m (arrival_row old m)
  pub texts : (id : ℕ) →
      text_row new id
      ≡ text_kept new.plan.branches felt asked (bookmark_in old.plan.bookmarks id)
      (text_row old id)

-- so it is from where the edit is felt, by what was known to arrive before it
pub record KeepsUnfelt (asked : Asked) (old new : BookState) : Type 0 where
  pub felt : Option Mark
  pub is : IsFelt (arrival_known old) old.plan asked new.plan felt
  pub keeps : KeepsRows asked felt old new
