-- How a settling goes on: the job that isn't sent yet, what is out, and how many turns it takes at
-- most.
use Rattle.std.specs.Prelude.{◌≡◌, ◌⊎◌, ℕ, true, ◌+◌, ◌*◌, ◌<◌, ◌≤◌, Option, None, Some, IfSome}
use Rattle.std.specs.declared.ops.ControlFlow.{ControlFlow}
use Rattle.std.specs.declared.ops.ControlFlow.TheVariants.{Continue, Break}
use Rattle.revision_jobs.specs.declared.answer.Job.{Job}
use Rattle.revision_jobs.specs.Answer.{JobResult}
use Rattle.revision_jobs.specs.Entries.{IsOf}
use Rattle.revision_jobs.specs.Posted.{PostView, Receives as ReceivesOf}
use Rattle.revision_jobs.specs.declared.post.Received.TheVariants.{Answer}
use Rattle.desk_events.specs.declared.need.Need.{Need}
use Rattle.dependency_book.specs.Jobs.{SameDocument}
use Rattle.dependency_book.specs.BookState.{BookState, given_of, expected, pending_of, empty_rows_of, NothingOut}
use Rattle.desk_core.specs.declared.cause.Cause.{Cause}
use Rattle.desk_core.specs.declared.issue.IssueFault.{IssueFault}
use Rattle.desk_core.specs.declared.progress.Progress.{Progress}
use Rattle.desk_core.specs.declared.unsent.Unsent.{Unsent}
use Rattle.desk_core.specs.declared.unsent.Unsent.TheVariants.{Nothing, Ready, Waiting}
use Rattle.desk_core.specs.Calls.{Cancels, GoesByCalls}
use Rattle.desk_core.specs.Feed.{Feeds}
use Rattle.desk_core.specs.Polling.{Collects, IsCauseOf}
use Rattle.desk_core.specs.Settling.{GivesAtMost, HoldsAllOut, KeepsKnown, Serves, ServesOn, TellsCause}

-- the job that isn't sent yet, if there is one
abbrev pub job_in : Unsent → Option Job
job_in Nothing = None
job_in (Ready job) = Some job
job_in (Waiting job) = Some job

-- a job is cancelled; without one nothing changes
abbrev pub CancelsAny : Option Job → BookState → BookState → Type 0
CancelsAny None old new = new ≡ old
CancelsAny (Some job) old new = Cancels job.number old new

-- a job can be sent to a post of this floor: it is of the desk's table, and its number was given
-- and isn't below the floor
pub record CanBeSent (d : BookState) (floor : ℕ) (job : Job) : Type 0 where
  pub own : IsOf d.table job.place
  pub rises : floor ≤ job.number
  pub given : job.number < given_of d

-- the progress with this job to be sent next
abbrev pub ready : Job → Progress → Progress
ready job progress = record { unsent = Ready job; cause = progress.cause }

-- the post serves the desk, and the job that isn't sent yet can be sent to it
pub record CanSendNext (d : BookState) (post : PostView) (next : Option Job) : Type 0 where
  pub serves : Serves d post
  pub unsent : IfSome next (CanBeSent d post.floor)

-- each job that is out isn't sent yet or is held by the post
abbrev pub IsAtHand : Option Job → Option Job → BookState → Type 0
IsAtHand unsent held d =
    (need : Need) (job : Job) → expected d need ≡ Some job → (unsent ≡ Some job) ⊎ (held ≡ Some job)

-- a job that is out was out at first, isn't sent yet, or was sent to a post of this floor
abbrev pub IsAccounted : BookState → ℕ → Option Job → Need → Job → Type 0
IsAccounted first floor unsent need job =
    (expected first need ≡ Some job) ⊎ ((unsent ≡ Some job) ⊎ (job.number < floor))

-- the post fits still, each job that is out is accounted for, and if the post held at first
-- whatever was out, each is at hand
pub record KeepsJobs (first : BookState) (begun : PostView) (d : BookState) (post : PostView)
    (unsent : Option Job) : Type 0 where
  pub fits : CanSendNext d post unsent
  pub out : (need : Need) (job : Job) → expected d need ≡ Some job
      → IsAccounted first post.floor unsent need job
  pub at_hand : HoldsAllOut first begun → IsAtHand unsent post.held d

-- the progress with nothing left to send, and with a cause, if one was met
abbrev pub at_rest : Option Cause → Progress
at_rest cause = record { unsent = Nothing; cause = cause }

-- where a settling is: what the desk knows, the post, and the progress
pub record Stage : Type 0 where
  pub desk : BookState
  pub post : PostView
  pub progress : Progress

abbrev pub stage : BookState → PostView → Progress → Stage
stage d post progress = record { desk = d; post = post; progress = progress }

-- a settling that began with this desk and this post has come so far by calls, of which the cause is
-- the first: what was known is so still, the document is the same, no job is lost, and the answers,
-- the flags that were seen raised and the refused issues since then explain the cause
pub record HasCome (first : BookState) (begun : PostView) (s : Stage) : Type 0 where
  pub known : KeepsKnown first s.desk
  pub document : SameDocument first s.desk
  pub jobs : KeepsJobs first begun s.desk s.post (job_in s.progress.unsent)
  pub calls : GoesByCalls begun s.post first s.desk s.progress.cause
  pub told : TellsCause begun s.post first s.desk s.progress.cause
  pub refused : first.refused ≤ s.desk.refused
  pub stops : begun.stops ≤ s.post.stops
  pub limit : s.post.limit ≡ begun.limit
  pub kind : s.post.is_prompt ≡ begun.is_prompt

-- the post fits the desk, and the job that isn't sent yet
abbrev pub IsFit : Stage → Type 0
IsFit s = CanSendNext s.desk s.post (job_in s.progress.unsent)

-- whatever settling came to the first stage comes to the second
abbrev pub Comes : Stage → Stage → Type 0
Comes s t = (first : BookState) (begun : PostView) → HasCome first begun s → HasCome first begun t

-- so many jobs were taken, the post serves the desk still, and whatever came before goes on with the
-- refusal that ended the feeding as its cause, if one did
pub record FeedsOn (p q : PostView) (old new : BookState) (taken : ℕ) (refused : Option IssueFault)
    : Type 0 where
  pub feeds : Feeds p q old new taken refused
  pub serves : ServesOn p q old new
  pub comes : (told : Option Cause) → IsCauseOf refused told
      → Comes (stage old p (at_rest None)) (stage new q (at_rest told))

-- answers were collected, by which a settling has come so far
pub record CollectsOn (p q : PostView) (old new : BookState) (cause : Option Cause) : Type 0 where
  pub collects : Collects p q old new cause
  pub comes : HasCome old p (stage new q (at_rest cause))

-- whatever settling came to the first stage comes to the second, the post fits still, a cause that
-- was met stays that very one, and at most so many numbers were given
pub record GoesOn (most : ℕ) (s t : Stage) : Type 0 where
  pub cause : IfSome s.progress.cause (λ cause. t.progress.cause ≡ Some cause)
  pub fits : IsFit s → IsFit t
  pub comes : (first : BookState) (begun : PostView) → HasCome first begun s
      → HasCome first begun t
  pub given : GivesAtMost most s.desk t.desk

-- so it goes on by at most one number over any post, which does nothing meanwhile
abbrev pub GoesOnBy : BookState → BookState → Progress → Progress → Type 0
GoesOnBy d e before after = (post : PostView) → GoesOn 1 (stage d post before) (stage e post after)

-- so it goes on by no number over any post that gives an answer meanwhile
abbrev pub GoesOnWith : JobResult → BookState → BookState → Progress → Progress → Type 0
GoesOnWith answer d e before after =
    (p q : PostView) → ReceivesOf p q (Answer answer)
    → GoesOn 0 (stage d p before) (stage e q after)

-- nothing is left to send, and nothing is pending
abbrev pub HasAll : Stage → Type 0
HasAll s = (s.progress.unsent ≡ Nothing) × (pending_of s.desk ≡ 0)

-- where a settling goes on the post was asked once; where it ends the post is over, or unless there
-- is a cause all is known
abbrev pub Asks : Stage → Stage → ControlFlow Unit Unit → Type 0
Asks s t (Continue _) = t.post.asked ≡ s.post.asked + 1
Asks s t (Break _) = (t.post.is_over ≡ true) ⊎ (t.progress.cause ≡ None → HasAll t)

-- how many turns what isn't sent yet and what is held take at most
abbrev pub turns_for : Unsent → Option Job → ℕ
turns_for Nothing None = 0
turns_for Nothing (Some held) = 1
turns_for (Ready job) None = 2
turns_for (Ready job) (Some held) = 4
turns_for (Waiting job) held = 3

-- how many turns a settling over a prompt post takes at most from here
abbrev pub turns_from : BookState → Unsent → Option Job → ℕ
turns_from d unsent held = 3 * empty_rows_of d + turns_for unsent held

abbrev pub turns_at : Stage → ℕ
turns_at s = turns_from s.desk s.progress.unsent s.post.held

-- whatever is held, no more turns are taken from there unless there is a cause
abbrev pub TakesNoMore : BookState → BookState → Progress → Progress → Type 0
TakesNoMore d e before after =
    (held : Option Job) → after.cause ≡ None
    → turns_from e after.unsent held ≤ turns_from d before.unsent held

-- where none is left to send and there is no cause, nothing is pending unless a job is out
abbrev pub SeesAll : BookState → Progress → Type 0
SeesAll d progress =
    progress.unsent ≡ Nothing → progress.cause ≡ None → NothingOut d → pending_of d ≡ 0

-- a turn brings a settling nearer to its end; where it ends all is known
abbrev pub Nears : Stage → Stage → ControlFlow Unit Unit → Type 0
Nears s t (Continue _) = turns_at t < turns_at s
Nears s t (Break _) = HasAll t

-- so it is unless there is a cause, if the post held at first whatever was out
abbrev pub Advances : Stage → Stage → ControlFlow Unit Unit → Type 0
Advances s t next =
    (first : BookState) (begun : PostView) → HasCome first begun s → HoldsAllOut first begun
    → t.progress.cause ≡ None → Nears s t next

-- what a prompt post held was answered, and unless there is a cause the job that isn't sent yet is
-- the same and no more rows want one
pub record Frees (s t : Stage) (next : ControlFlow Unit Unit) : Type 0 where
  pub held : t.post.held ≡ None
  pub goes_on : next ≡ Continue tt
  pub unsent : t.progress.cause ≡ None → t.progress.unsent ≡ s.progress.unsent
  pub wanting : t.progress.cause ≡ None → empty_rows_of t.desk ≤ empty_rows_of s.desk

-- every bookmark is current, or will be seen to be since nothing is out and nothing wanting
abbrev pub IsDone : BookState → Type 0
IsDone d = (pending_of d ≡ 0) ⊎ (NothingOut d × (empty_rows_of d ≡ 0))

-- where a settling ends without a cause, nothing is left to send and every bookmark current
abbrev pub IsDoneBy : Stage → Type 0
IsDoneBy s = s.progress.cause ≡ None → (s.progress.unsent ≡ Nothing) × IsDone s.desk

-- a run of so many turns ended: the post is over, it was asked in each of them, or unless there is
-- a cause all is known
abbrev pub RunsOut : ℕ → PostView → Stage → Type 0
RunsOut turns begun s =
    (s.post.is_over ≡ true)
    ⊎ ((begun.asked + turns ≤ s.post.asked) ⊎ (s.progress.cause ≡ None → HasAll s))
