-- What issuing a job does.
use Rattle.std.specs.Prelude.{◌≡◌, ◌<◌, ◌≤◌, Option, None, Some}
use Rattle.revision_jobs.specs.declared.answer.Job.{Job}
use Rattle.desk_events.specs.declared.need.Need.{Need}
use Rattle.dependency_book.specs.declared.row.RowState.TheVariants.{Empty}
use Rattle.dependency_book.specs.Called.{IsIssue}
use Rattle.dependency_book.specs.Jobs.{IsNextJob}
use Rattle.dependency_book.specs.BookState.{BookState, given_of, row_of, pending_of, with_refusal, NothingOut}
use Rattle.dependency_book.specs.Needs.{IsNext}
use Rattle.desk_core.specs.declared.issue.IssueFault.{IssueFault}
use Rattle.desk_core.specs.declared.issue.IssueFault.TheVariants.{NumbersSpent, NoMemory}

-- the next job is that of this row, in which nothing stood; it is issued for it, and no other row
-- changes
pub record IssuesFor (old new : BookState) (job : Job) (need : Need) : Type 0 where
  pub next : IsNextJob old need job
  pub empty : row_of old need ≡ Empty
  pub is : IsIssue need job old new

-- a job for what is to be computed next; none, and nothing changes, where nothing is, and then
-- nothing is pending unless a job is out
abbrev pub IsIssued : BookState → BookState → Option Job → Type 0
IsIssued old new None = IsNext old None × (new ≡ old) × (NothingOut new → pending_of new ≡ 0)
IsIssued old new (Some job) = (need : Need) × IssuesFor old new job need

-- something is to be computed
abbrev pub HasNext : BookState → Type 0
HasNext d = (need : Need) × IsNext d (Some need)

-- something is to be computed; every number was given, and nothing changes, or else memory ran out,
-- and one more issue was refused
abbrev pub RefusesIssue : BookState → BookState → IssueFault → Type 0
RefusesIssue old new NumbersSpent = HasNext old × (16777216 ≤ given_of old) × (new ≡ old)
RefusesIssue old new NoMemory =
    HasNext old × (given_of old < 16777216) × (new ≡ with_refusal old)
