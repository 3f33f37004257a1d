-- Which events of the law the calls of a book are.
use Rattle.std.specs.Prelude.{◌≡◌, ℕ, ◌+◌, ◌++◌, [], ◌∷◌, Option}
use Rattle.schedule.specs.Asked.{Asked}
use Rattle.revision_jobs.specs.declared.answer.Job.{Job}
use Rattle.revision_jobs.specs.Answer.{JobResult}
use Rattle.revision_jobs.specs.Entries.{index_of}
use Rattle.desk_events.specs.declared.mark.Mark.{Mark}
use Rattle.desk_events.specs.declared.need.Need.{Need}
use Rattle.desk_events.specs.Event.{cancels, collects, edits, issues}
use Rattle.desk_events.specs.Law.{Calls}
use Rattle.dependency_book.specs.declared.filled.Filled.{Filled}
use Rattle.dependency_book.specs.declared.filled.Filled.TheVariants.{Row, Released, NotExpected}
use Rattle.dependency_book.specs.BookState.{BookState, SameFacts, row_of, empty_rows_of}
use Rattle.dependency_book.specs.Core.{core_of}
use Rattle.dependency_book.specs.Jobs.{IsFilled, SameBook, SameDocument, answered, issued}
use Rattle.dependency_book.specs.Said.{answer_said, said_at}

-- an edit is asked, which is felt from some mark on
pub record IsEdit (asked : Asked) (old new : BookState) : Type 0 where
  pub felt : Option Mark
  pub event : Calls (edits asked felt) (core_of old) (core_of new)

-- a job is issued for a need: the row expects it, and no other changes; its number was given for
-- its entry, and no issue was refused
pub record IsIssue (need : Need) (job : Job) (old new : BookState) : Type 0 where
  pub rows : (other : Need) → row_of new other ≡ issued need job other (row_of old other)
  pub document : SameDocument old new
  pub entries : new.entries ≡ old.entries ++ said_at job.place ∷ []
  pub indices : new.indices ≡ old.indices ++ index_of job.place ∷ []
  pub refused : new.refused ≡ old.refused
  pub fewer : empty_rows_of new + 1 ≡ empty_rows_of old
  pub event : Calls (issues need (said_at job.place)) (core_of old) (core_of new)

-- an answer that a row expects is collected; in the law any other changes nothing
abbrev pub IsCollect : JobResult → BookState → BookState → Filled → Type 0
IsCollect answer old new Row = Calls (collects (answer_said answer)) (core_of old) (core_of new)
IsCollect answer old new (Released fault) =
    Calls (collects (answer_said answer)) (core_of old) (core_of new)
IsCollect answer old new NotExpected = core_of new ≡ core_of old

-- what a book that takes an answer changes: no row but that which expects its job, as an event of
-- the law does
pub record TakesAnswer (answer : JobResult) (old new : BookState) (result : Filled) : Type 0 where
  pub filled : IsFilled old new answer result
  pub rows : (need : Need) → row_of new need ≡ answered answer (row_of old need)
  pub book : SameBook old new
  pub remembered : SameFacts old new
  pub event : IsCollect answer old new result

-- the job of a number is cancelled
abbrev pub IsCancel : ℕ → BookState → BookState → Type 0
IsCancel number old new = Calls (cancels number) (core_of old) (core_of new)
