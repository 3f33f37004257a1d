-- The calls of which a settling, a poll and a feeding consist.
use Rattle.std.specs.Prelude.{◌≡◌, ℕ, ◌++◌, Bool, true, false, List, [], ◌∷◌, Option, None, Some, IsSome, ⊤}
use Rattle.std.specs.List.{AllByRecursion, filter_map}
use Rattle.std.specs.Option.{option_or}
use Rattle.revision_jobs.specs.declared.answer.Job.{Job}
use Rattle.revision_jobs.specs.Answer.{JobResult}
use Rattle.revision_jobs.specs.Posted.{PostView}
use Rattle.desk_events.specs.declared.need.Need.{Need}
use Rattle.dependency_book.specs.BookState.{BookState, row_of}
use Rattle.dependency_book.specs.Called.{IsCancel}
use Rattle.dependency_book.specs.Jobs.{SameBook, cancelled}
use Rattle.dependency_book.specs.Recalled.{Fills}
use Rattle.desk_core.specs.declared.cause.Cause.{Cause}
use Rattle.desk_core.specs.declared.collect.Collected.{Collected}
use Rattle.desk_core.specs.declared.collect.Collected.TheVariants.{Released}
use Rattle.desk_core.specs.declared.issue.IssueFault.{IssueFault}
use Rattle.desk_core.specs.Cause.{cause_of_answer, cause_of_issue}
use Rattle.desk_core.specs.Collected.{IsCollected, IsEvent}
use Rattle.desk_core.specs.Issued.{IsIssued, RefusesIssue}

-- a job is issued; an issue is refused, for this reason; an answer is collected, and this comes of
-- it; or the job of a number is cancelled
pub data Call : Type 0 where
  issues : Job → Call
  refuses : IssueFault → Call
  collects : JobResult → Collected → Call
  cancels : ℕ → Call

-- an answer is collected, and this comes of it
pub record CollectsAs (answer : JobResult) (collected : Collected) (old new : BookState)
    : Type 0 where
  pub is : IsCollected old new answer collected
  pub fills : Fills answer old new
  pub book : SameBook old new
  pub event : IsEvent old new answer collected

-- the row that expects the job of this number expects nothing any more, and no other row changes
pub record Cancels (number : ℕ) (old new : BookState) : Type 0 where
  pub rows : (need : Need) → row_of new need ≡ cancelled number (row_of old need)
  pub book : SameBook old new
  pub event : IsCancel number old new

-- what a call makes of a desk
abbrev pub ComesBy : Call → BookState → BookState → Type 0
ComesBy (issues job) old new = IsIssued old new (Some job)
ComesBy (refuses fault) old new = RefusesIssue old new fault
ComesBy (collects answer collected) old new = CollectsAs answer collected old new
ComesBy (cancels number) old new = Cancels number old new

-- and calls, one after another
abbrev pub ComesByAll : List Call → BookState → BookState → Type 0
ComesByAll [] old new = new ≡ old
ComesByAll (call ∷ calls) old new =
    (next : BookState) × ComesBy call old next × ComesByAll calls next new

-- the answer that a call collects, if it does
abbrev pub answer_in : Call → Option JobResult
answer_in (collects answer collected) = Some answer
answer_in _ = None

-- the answers that are collected, in order
abbrev pub answers_in : List Call → List JobResult
answers_in = filter_map answer_in

-- the cause that a call meets, if it does: that of a refused issue, or of a job that gave up
abbrev pub met_by : Call → Option Cause
met_by (refuses fault) = Some (cause_of_issue fault)
met_by (collects answer (Released fault)) = Some (cause_of_answer fault)
met_by _ = None

-- the first that is met
abbrev pub first_cause : List Call → Option Cause
first_cause [] = None
first_cause (call ∷ calls) = option_or (met_by call) (first_cause calls)

-- whether a job is issued or an issue refused
abbrev pub is_issue : Call → Bool
is_issue (issues job) = true
is_issue (refuses fault) = true
is_issue _ = false

-- no job is issued, and no issue refused
abbrev pub IssuesNone : List Call → Type 0
IssuesNone = AllByRecursion (λ call. is_issue call ≡ false)

-- nor is one behind a call that meets a cause
abbrev pub StopsAtCause : List Call → Type 0
StopsAtCause [] = ⊤
StopsAtCause (call ∷ calls) = (IsSome (met_by call) → IssuesNone calls) × StopsAtCause calls

-- a desk became another by calls, which collected each answer that a post gave meanwhile; this is
-- the first cause that they met, if they met one, and behind it nothing was issued
pub record GoesByCalls (p q : PostView) (old new : BookState) (cause : Option Cause) : Type 0 where
  pub calls : List Call
  pub comes : ComesByAll calls old new
  pub gave : q.answers ≡ p.answers ++ answers_in calls
  pub first : cause ≡ first_cause calls
  pub stops : StopsAtCause calls
