-- What a book has to compute next.
use Rattle.std.specs.Prelude.{◌≡◌, ◌⊎◌, ℕ, ◌<◌, ◌≤◌, true, false, Option, None, Some, IsSome}
use Rattle.schedule.specs.declared.document.Bookmark.{Bookmark}
use Rattle.desk_events.specs.declared.mark.Mark.{Mark}
use Rattle.desk_events.specs.declared.need.Need.{Need}
use Rattle.desk_events.specs.declared.need.Need.TheVariants.{Step, View}
use Rattle.dependency_book.specs.declared.row.RowState.TheVariants.{Empty}
use Rattle.dependency_book.specs.BookState.{BookState, arrival_row, text_row, arrival_known}
use Rattle.desk_events.specs.Wanted.{bookmark_in}
use Rattle.desk_events.specs.Marks.{is_mark, is_start, bookmark_mark, mark_at, ComesBefore}

-- a bookmark can be viewed: what arrives at its mark is known, its text isn't, and no job is out
-- for it
pub record CanBeViewed (d : BookState) (b : Bookmark) : Type 0 where
  pub there : bookmark_in d.plan.bookmarks b.id ≡ Some b
  pub arrived : IsSome (arrival_known d (bookmark_mark b))
  pub empty : text_row d b.id ≡ Empty

-- a step leads to a mark besides the start: what arrives at the mark before it is known
pub record IsLedTo (d : BookState) (mark : Mark) : Type 0 where
  pub above : is_start mark ≡ false
  pub is : is_mark d.plan mark ≡ true
  pub before : Mark
  pub comes : ComesBefore d.plan before mark
  pub arrived : IsSome (arrival_known d before)

-- a mark can be reached by a step, which leads to it: what arrives there isn't known, and no job is
-- out for it
pub record CanBeReached (d : BookState) (mark : Mark) : Type 0 where
  pub led : IsLedTo d mark
  pub empty : arrival_row d mark ≡ Empty

-- the view of a bookmark comes first: it has the least id of those that can be viewed
pub record ViewIsNext (d : BookState) (id : ℕ) : Type 0 where
  pub bookmark : Bookmark
  pub named : bookmark.id ≡ id
  pub can : CanBeViewed d bookmark
  pub least : (other : Bookmark) → CanBeViewed d other → id ≤ other.id

-- a mark isn't after another: its branch has a lesser id, or it is in the same one and not above
abbrev pub IsNotAfter : Mark → Mark → Type 0
IsNotAfter m n =
    (m.branch < n.branch) ⊎ ((m.branch ≡ n.branch) × (m.generation ≤ n.generation))

-- this mark is the first that can be reached
pub record IsFirstReached (d : BookState) (mark : Mark) : Type 0 where
  pub can : CanBeReached d mark
  pub first : (other : Mark) → CanBeReached d other → IsNotAfter mark other

-- a step comes first: no bookmark can be viewed, and its mark is the first that can be reached
pub record StepIsNext (d : BookState) (mark : Mark) : Type 0 where
  pub no_view : (b : Bookmark) → CanBeViewed d b → ⊥
  pub step : IsFirstReached d mark

-- no bookmark can be viewed, and no mark reached
pub record NothingIsNext (d : BookState) : Type 0 where
  pub no_view : (b : Bookmark) → CanBeViewed d b → ⊥
  pub no_step : (mark : Mark) → CanBeReached d mark → ⊥

-- what is to be computed next: a view before any step
abbrev pub IsNext : BookState → Option Need → Type 0
IsNext d None = NothingIsNext d
IsNext d (Some (Step branch mark)) = StepIsNext d (mark_at branch mark)
IsNext d (Some (View id)) = ViewIsNext d id

-- the bookmark of this id can be viewed, and has the least id of those that can; or none can
abbrev pub IsNextView : BookState → Option ℕ → Type 0
IsNextView d None = (b : Bookmark) → CanBeViewed d b → ⊥
IsNextView d (Some id) = ViewIsNext d id

-- this mark is the first that can be reached; or none can
abbrev pub IsNextStep : BookState → Option Mark → Type 0
IsNextStep d None = (mark : Mark) → CanBeReached d mark → ⊥
IsNextStep d (Some mark) = IsFirstReached d mark
