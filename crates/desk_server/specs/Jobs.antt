-- The desk's jobs, and the post that carries them.
use Rattle.std.specs.Prelude.{◌≡◌, ◌⊎◌, ℕ, true, List, Option, Some}
use Rattle.revision_jobs.specs.declared.entries.Entries.{Entries}
use Rattle.revision_jobs.specs.declared.answer.Job.{Job}
use Rattle.revision_jobs.specs.Answer.{JobResult}
use Rattle.revision_jobs.specs.Posted.{PostView}
use Rattle.desk_events.specs.declared.need.Need.{Need}
use Rattle.dependency_book.specs.BookState.{given_of, BookState, expected, pending_of, NothingOut}
use Rattle.desk_core.specs.declared.cause.Cause.{Cause}
use Rattle.desk_core.specs.Calls.{GoesByCalls}
use Rattle.desk_core.specs.Settling.{Explains, HoldsJobsOut, Serves}

-- a post of the table that took no job
pub record IsFresh (post : PostView) (entries : Entries) : Type 0 where
  pub own : post.table ≡ entries
  pub none : post.floor ≡ 0

-- a post of the desk's table that took only numbers that the desk gave; if it is prompt it holds
-- whatever job is out
pub record PostMatchesDesk (post : PostView) (d : BookState) : Type 0 where
  pub serves : Serves d post
  pub out : post.is_prompt ≡ true → HoldsJobsOut post.held d

-- the post is of the kind that it was and at its limit, and carries the jobs of the desk that is
-- left
pub record CarriesOn (old new : PostView) (d : BookState) : Type 0 where
  pub limit : new.limit ≡ old.limit
  pub kind : new.is_prompt ≡ old.is_prompt
  pub carries : PostMatchesDesk new d

-- nothing is left to compute, or no job is out
abbrev pub IsDoneWith : BookState → Type 0
IsDoneWith d = (pending_of d ≡ 0) ⊎ NothingOut d

-- the table and how many numbers were given are the same, and no job is out that wasn't
pub record DropsJobs (old new : BookState) : Type 0 where
  pub table : new.table ≡ old.table
  pub given : given_of new ≡ given_of old
  pub out : (need : Need) (job : Job) → expected new need ≡ Some job → expected old need ≡ Some job

-- what explains a cause since any first desk explains it still
abbrev pub KeepsCauses : BookState → BookState → Type 0
KeepsCauses old new =
    (limit : ℕ) (first : BookState) (answers : List JobResult) (cause : Cause)
    → Explains limit first old answers cause → Explains limit first new answers cause

-- calls that led to the one desk, and others behind them, lead to the other; the first cause that
-- they meet is the same
abbrev pub KeepsCalls : BookState → BookState → Type 0
KeepsCalls old new =
    (p q : PostView) (first : BookState) (cause : Option Cause)
    → GoesByCalls p q first old cause → GoesByCalls p q first new cause
