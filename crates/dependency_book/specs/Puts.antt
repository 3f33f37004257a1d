-- What is put in the row of a need.
use Rattle.std.specs.Prelude.{◌≡◌, ℕ, ◌+◌, ◌&&◌, not, Bool, true, Result, Ok, Err, if◌then◌else◌, cond, IfSome}
use Rattle.step_engine.specs.declared.evolved.EvolveFault.{EvolveFault}
use Rattle.schedule.specs.Ids.{has_id, bookmark_id}
use Rattle.schedule.specs.Plan.{Plan}
use Rattle.revision_jobs.specs.Value.{Value}
use Rattle.dependency_book.specs.declared.filled.Filled.{Filled}
use Rattle.dependency_book.specs.declared.filled.Filled.TheVariants.{Row, Released}
use Rattle.dependency_book.specs.declared.row.RowState.{RowState}
use Rattle.desk_events.specs.declared.need.Need.{Need}
use Rattle.dependency_book.specs.RowState.{is_empty, job_of}
use Rattle.dependency_book.specs.BookState.{BookState, SameFacts, row_of, empty_rows_of}
use Rattle.desk_events.specs.declared.need.Need.TheVariants.{Step, View}
use Rattle.dependency_book.specs.Jobs.{SameBook}
use Rattle.desk_events.specs.Needs.{is_need}
use Rattle.desk_events.specs.Marks.{is_mark, is_start, mark_at}
use Rattle.desk_events.specs.Core.{put}
use Rattle.desk_events.specs.Right.{IsRight}
use Rattle.dependency_book.specs.Core.{core_of, plain_row}
use Rattle.dependency_book.specs.Right.{IsGiven}

-- whether the row of a need may change: that of a mark but the start or of a bookmark of the
-- document
abbrev pub can_change : Plan → Need → Bool
can_change p (Step branch mark) =
    not (is_start (mark_at branch mark)) && is_mark p (mark_at branch mark)
can_change p (View id) = has_id bookmark_id p.bookmarks id

-- this may stand in the row of a need from now on: the desk with it is right, and a job was given
pub record CanBePut (d : BookState) (need : Need) (state : RowState Value) : Type 0 where
  pub there : can_change d.plan need ≡ true
  pub right : IsRight (put need (plain_row state) (core_of d))
  pub out : IfSome (job_of state) (IsGiven d)

-- 1 where nothing stands
abbrev pub missing : {V : Type 0} → RowState V → ℕ
missing state = cond (is_empty state) 1 0

-- this stands in the row of a need afterwards, and in each other row what stood there
pub record PutsRow (need : Need) (state : RowState Value) (old new : BookState) : Type 0 where
  pub book : SameBook old new
  pub rows : (other : Need) →
      row_of new other ≡ (if is_need need other then state else row_of old other)
  pub wanting : empty_rows_of new + missing (row_of old need) ≡ empty_rows_of old + missing state
  pub remembered : SameFacts old new

-- what came of an outcome that is put
abbrev pub filled_by : Result Value EvolveFault → Filled
filled_by (Ok found) = Row
filled_by (Err fault) = Released fault
