-- What jobs and their answers change in the rows of a book.
use Rattle.std.specs.Prelude.{◌≡◌, ℕ, ◌≤◌, ◌<◌, Bool, false, ◌&&◌, Option, None, Some, IfSome, IsSome, Result, Ok, Err, if◌then◌else◌, ◌==◌, true}
use Rattle.std.specs.Result.{IsOk}
use Rattle.step_engine.specs.declared.evolved.EvolveFault.{EvolveFault}
use Rattle.revision_jobs.specs.declared.answer.Job.{Job}
use Rattle.revision_jobs.specs.declared.entries.Place.{Place}
use Rattle.revision_jobs.specs.Answer.{JobResult}
use Rattle.revision_jobs.specs.Entries.{IsOf, entry_of, index_of}
use Rattle.revision_jobs.specs.Room.{HasNoRoom}
use Rattle.revision_jobs.specs.Value.{Value}
use Rattle.dependency_book.specs.declared.filled.Filled.{Filled}
use Rattle.dependency_book.specs.declared.filled.Filled.TheVariants.{Row, Released, NotExpected}
use Rattle.dependency_book.specs.declared.row.RowState.{RowState}
use Rattle.dependency_book.specs.declared.row.RowState.TheVariants.{Empty, Expected, Known}
use Rattle.desk_events.specs.declared.mark.Mark.{Mark}
use Rattle.desk_events.specs.declared.need.Need.{Need}
use Rattle.dependency_book.specs.Entered.{IsEntryOf}
use Rattle.dependency_book.specs.RowState.{job_of, has_number}
use Rattle.dependency_book.specs.BookState.{BookState, NothingOut, SameButFacts, expected, given_of, empty_rows_of}
use Rattle.desk_events.specs.Marks.{is_mark, is_start}
use Rattle.dependency_book.specs.Needs.{IsNext}
use Rattle.dependency_book.specs.Rows.{keys}
use Rattle.desk_events.specs.Needs.{step_to, is_need}

-- whether a job that is out is this one: its number, at its place
abbrev pub is_job : Job → Option Job → Bool
is_job job None = false
is_job job (Some other) = other.number == job.number && index_of other.place == index_of job.place

-- what an answer gives a row: the value, or nothing where the job gave up
abbrev pub given_by : Result Value EvolveFault → RowState Value
given_by (Ok found) = Known found
given_by (Err fault) = Empty

-- what stands in a row after an answer: what the answer gives, if the row expects its job
abbrev pub answered : JobResult → RowState Value → RowState Value
answered answer row = if is_job answer.job (job_of row) then given_by answer.outcome else row

-- what stands in a row after the job of this number was cancelled: nothing, if the row expects it
abbrev pub cancelled : ℕ → RowState Value → RowState Value
cancelled number row = if has_number number (job_of row) then Empty else row

-- what stands in another row, or in the same, after a job was issued for a need
abbrev pub issued : Need → Job → Need → RowState Value → RowState Value
issued need job other row = if is_need need other then Expected job else row

-- a job for what is needed next: its entry, in the table, is what is to be computed for that row,
-- and its number is the next that is given, below 16,777,216
pub record IsNextJob (d : BookState) (need : Need) (job : Job) : Type 0 where
  pub next : IsNext d (Some need)
  pub own : IsOf d.table job.place
  pub entry : IsEntryOf d need (entry_of job.place)
  pub number : job.number ≡ given_of d
  pub few : job.number < 16777216

-- a row expects the job
abbrev pub IsExpected : BookState → Job → Type 0
IsExpected d job = (need : Need) × (is_job job (expected d need) ≡ true)

-- the row of a step expects the job of an answer, that of a mark of the document but the start, and
-- the step has no room at the limit that the job was worked with
pub record StepExpects (d : BookState) (answer : JobResult) : Type 0 where
  pub mark : Mark
  pub above : is_start mark ≡ false
  pub noted : is_mark d.plan mark ≡ true
  pub row : is_job answer.job (expected d (step_to mark)) ≡ true
  pub spent : HasNoRoom answer.limit (entry_of answer.job.place)

-- what came of an answer: a row was filled, and no more rows are empty; or it expects nothing any
-- more because the job gave up, for want of room if it is a step's; or no row expects the job, and
-- nothing changes but what is remembered
abbrev pub IsFilled : BookState → BookState → JobResult → Filled → Type 0
IsFilled old new answer Row =
    IsExpected old answer.job × IsOk answer.outcome × (empty_rows_of new ≤ empty_rows_of old)
IsFilled old new answer (Released fault) =
    IsExpected old answer.job
    × (answer.outcome ≡ Err fault)
    × (fault ≡ EvolveFault.NoRoom → StepExpects old answer)
IsFilled old new answer NotExpected =
    ((need : Need) → is_job answer.job (expected old need) ≡ false) × SameButFacts old new

-- no row expects a job of this number
abbrev pub NoneExpects : BookState → ℕ → Type 0
NoneExpects d number = (need : Need) → has_number number (expected d need) ≡ false

-- the row of a need expects the job of this number, whose entry is at this place
abbrev pub Expects : BookState → ℕ → Need → Place → Type 0
Expects d number need place = expected d need ≡ Some (record { number = number; place = place })

-- the place is one of the table, and that of the job of this number that a row expects; or no row
-- expects one
abbrev pub IsForgotten : BookState → ℕ → Option Place → Type 0
IsForgotten d number None = NoneExpects d number
IsForgotten d number (Some place) =
    IsOf d.table place × ((need : Need) × Expects d number need place)

-- a row expects a job; or none does
abbrev pub IsAnyOut : BookState → Bool → Type 0
IsAnyOut d true = (need : Need) × IsSome (expected d need)
IsAnyOut d false = NothingOut d

-- the number is the least of the jobs that are out; or none is out
abbrev pub IsFirstOut : BookState → Option ℕ → Type 0
IsFirstOut d None = NothingOut d
IsFirstOut d (Some number) =
    ((need : Need) × (has_number number (expected d need) ≡ true))
    × ((need : Need) → IfSome (expected d need) (λ job. number ≤ job.number))

-- the document, the table and what there are rows for are the same
pub record SameDocument (old new : BookState) : Type 0 where
  pub table : new.table ≡ old.table
  pub plan : new.plan ≡ old.plan
  pub marks : keys new.arrivals ≡ keys old.arrivals
  pub bookmarks : keys new.texts ≡ keys old.texts

-- so are they, the entries of the numbers that were given with their indices, and how often an issue
-- was refused
pub record SameBook (old new : BookState) : Type 0 where
  pub document : SameDocument old new
  pub entries : new.entries ≡ old.entries
  pub indices : new.indices ≡ old.indices
  pub refused : new.refused ≡ old.refused
