-- What polling a post does to a desk.
use Rattle.std.specs.Prelude.{◌≡◌, ◌⊎◌, ℕ, ◌+◌, ◌≤◌, List, [], ◌∷◌, ◌++◌, length, Option, Some, None, true}
use Rattle.revision_jobs.specs.declared.answer.Job.{Job}
use Rattle.revision_jobs.specs.Answer.{JobResult}
use Rattle.revision_jobs.specs.Posted.{PostView}
use Rattle.dependency_book.specs.BookState.{BookState, given_of, pending_of}
use Rattle.dependency_book.specs.Right.{IsRightBook}
use Rattle.desk_core.specs.declared.cause.Cause.{Cause}
use Rattle.desk_core.specs.declared.issue.IssueFault.{IssueFault}
use Rattle.desk_core.specs.declared.polling.Polled.{Polled}
use Rattle.desk_core.specs.Cause.{cause_of_issue}
use Rattle.desk_core.specs.Feed.{Feeds, HoldsWork}
use Rattle.desk_core.specs.Settling.{KeepsWhatIsKnown, ServesOn, TellsCause}

-- the job that was held, if one was, is answered, and no other
abbrev pub AnswersHeld : Option Job → List JobResult → List JobResult → Type 0
AnswersHeld None before after = after ≡ before
AnswersHeld (Some job) before after =
    (answer : JobResult) × (answer.job ≡ job) × (after ≡ before ++ answer ∷ [])

-- answers were collected until the post had none, or 64, and no number was given; the cause that is
-- met, if one is, is that of an answer; a prompt post answered the job that it held, and no other
pub record Collects (p q : PostView) (old new : BookState) (cause : Option Cause) : Type 0 where
  pub told : TellsCause p q old new cause
  pub all : (q.asked ≡ p.asked + (length told.later + 1)) ⊎ (64 ≤ length told.later)
  pub given : given_of new ≡ given_of old
  pub refused : old.refused ≤ new.refused
  pub keeps : KeepsWhatIsKnown old new q
  pub serves : ServesOn p q old new
  pub prompt : p.is_prompt ≡ true → AnswersHeld p.held p.answers q.answers

-- the cause that is told, if one is, is the refusal of an issue
abbrev pub IsCauseOf : Option IssueFault → Option Cause → Type 0
IsCauseOf (Some fault) told = told ≡ Some (cause_of_issue fault)
IsCauseOf None told = told ≡ None

-- then the post was fed, if no cause was met; a refusal that ended that is the cause
abbrev pub FeedsUnless : Option Cause → PostView → PostView → BookState → BookState → Option Cause
    → Type 0
FeedsUnless (Some cause) p q old new told = (q ≡ p) × (new ≡ old) × (told ≡ Some cause)
FeedsUnless None p q old new told =
    (taken : ℕ) × ((refused : Option IssueFault)
    × (Feeds p q old new taken refused × IsCauseOf refused told))

-- the answers that had come were collected, and then the post was fed unless a cause was met
pub record Polls (p q : PostView) (old new : BookState) (polled : Polled) : Type 0 where
  pub met : Option Cause
  pub post : PostView
  pub desk : BookState
  pub collects : Collects p post old desk met
  pub feeds : FeedsUnless met post q desk new polled.cause
  pub pending : polled.pending ≡ pending_of new
  pub right : IsRightBook new

-- so a prompt post is polled that held whatever was out: the job that it held is answered, and no
-- other; and unless a cause is told, nothing is pending or it holds a job again
pub record PollsPromptly (p q : PostView) (polled : Polled) : Type 0 where
  pub worked : AnswersHeld p.held p.answers q.answers
  pub goes_on : polled.cause ≡ None → HoldsWork polled.pending q.held
