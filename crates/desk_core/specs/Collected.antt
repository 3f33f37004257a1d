-- What comes of an answer.
use Rattle.std.specs.Prelude.{◌≡◌, ℕ, ◌≤◌, Err, true, false}
use Rattle.std.specs.Result.{IsOk}
use Rattle.step_engine.specs.declared.evolved.EvolveFault.{EvolveFault}
use Rattle.revision_jobs.specs.Answer.{JobResult}
use Rattle.desk_events.specs.declared.need.Need.{Need}
use Rattle.desk_events.specs.Event.{collects}
use Rattle.desk_events.specs.Law.{Calls}
use Rattle.dependency_book.specs.Core.{core_of}
use Rattle.dependency_book.specs.RowState.{has_number}
use Rattle.dependency_book.specs.Said.{answer_said}
use Rattle.dependency_book.specs.Jobs.{IsExpected, StepExpects, is_job}
use Rattle.dependency_book.specs.BookState.{BookState, SameButFacts, expected, empty_rows_of}
use Rattle.dependency_book.specs.Recalled.{LeavesNone}
use Rattle.desk_core.specs.declared.collect.Collected.{Collected}
use Rattle.desk_core.specs.declared.collect.Collected.TheVariants.{Accepted, Released, Stale}

-- a row expects the job of an answer with a value; no more rows are empty afterwards, and all that
-- is known by steps that were computed before was entered
pub record IsAccepted (old new : BookState) (answer : JobResult) : Type 0 where
  pub expected : IsExpected old answer.job
  pub value : IsOk answer.outcome
  pub wanting : empty_rows_of new ≤ empty_rows_of old
  pub entered : LeavesNone old new

-- a row expects the job of an answer that says why there is no value: want of room only of a step
-- that has none at the limit that the job was worked with
pub record IsReleased (old : BookState) (answer : JobResult) (fault : EvolveFault) : Type 0 where
  pub expected : IsExpected old answer.job
  pub gave_up : answer.outcome ≡ Err fault
  pub room : fault ≡ EvolveFault.NoRoom → StepExpects old answer

-- no row expects the job of an answer, which is told with its number and the present revision, and
-- nothing changes but what is remembered
pub record IsStale (old new : BookState) (answer : JobResult) (number revision : ℕ) : Type 0 where
  pub unexpected : (need : Need) → is_job answer.job (expected old need) ≡ false
  pub job : number ≡ answer.job.number
  pub present : revision ≡ new.plan.revision
  pub same : SameButFacts old new

-- what came of an answer
abbrev pub IsCollected : BookState → BookState → JobResult → Collected → Type 0
IsCollected old new answer Accepted = IsAccepted old new answer
IsCollected old new answer (Released fault) = IsReleased old answer fault
IsCollected old new answer (Stale number revision) = IsStale old new answer number revision

-- a row expects the job of this number
abbrev pub IsOut : BookState → ℕ → Type 0
IsOut d number = (need : Need) × (has_number number (expected d need) ≡ true)

-- in the law an answer that a row expects is collected; any other changes nothing
abbrev pub IsEvent : BookState → BookState → JobResult → Collected → Type 0
IsEvent old new answer Accepted =
    Calls (collects (answer_said answer)) (core_of old) (core_of new)
IsEvent old new answer (Released fault) =
    Calls (collects (answer_said answer)) (core_of old) (core_of new)
IsEvent old new answer (Stale number revision) = core_of new ≡ core_of old
