-- What feeding a post does to a desk.
use Rattle.std.specs.Prelude.{◌≡◌, ◌⊎◌, ℕ, ◌+◌, Option, Some, None, IsSome, if◌then◌else◌, ◌==◌}
use Rattle.std.specs.Option.{option_map}
use Rattle.revision_jobs.specs.declared.answer.Job.{Job}
use Rattle.revision_jobs.specs.Posted.{PostView}
use Rattle.desk_events.specs.declared.need.Need.{Need}
use Rattle.dependency_book.specs.declared.row.RowState.TheVariants.{Empty}
use Rattle.dependency_book.specs.Jobs.{SameDocument}
use Rattle.dependency_book.specs.BookState.{BookState, given_of, row_of, pending_of}
use Rattle.dependency_book.specs.Needs.{IsNext}
use Rattle.dependency_book.specs.Right.{IsRightBook}
use Rattle.desk_core.specs.declared.issue.IssueFault.{IssueFault}
use Rattle.desk_core.specs.Calls.{GoesByCalls}
use Rattle.desk_core.specs.Cause.{cause_of_issue}
use Rattle.desk_core.specs.Issued.{RefusesIssue}
use Rattle.desk_core.specs.Settling.{HoldsAllOut, KeepsWhatIsKnown}

-- the floor of a post that took so many jobs, with the numbers from a first one on
abbrev pub floor_after : ℕ → ℕ → ℕ → ℕ
floor_after before first taken = if taken == 0 then before else first + taken

-- so many numbers were given, and the post was asked as often
pub record AsksForNumbers (p q : PostView) (old new : BookState) (count : ℕ) : Type 0 where
  pub given : given_of new ≡ given_of old + count
  pub asked : q.asked ≡ p.asked + count

-- an issue was refused for this reason, and none before
pub record RefusesFirst (old new : BookState) (fault : IssueFault) : Type 0 where
  pub before : BookState
  pub none : before.refused ≡ old.refused
  pub refuses : RefusesIssue before new fault

-- why a feeding by which so many jobs were taken ended: a job couldn't be issued, for this reason;
-- nothing is to be computed next; or one more job was sent and not taken
abbrev pub FedUntil : PostView → PostView → BookState → BookState → ℕ → Option IssueFault → Type 0
FedUntil p q old new taken (Some fault) = AsksForNumbers p q old new taken × RefusesFirst old new fault
FedUntil p q old new taken None =
    (AsksForNumbers p q old new taken × IsNext new None) ⊎ AsksForNumbers p q old new (taken + 1)

-- nothing is pending, or a job is held
abbrev pub HoldsWork : ℕ → Option Job → Type 0
HoldsWork pending held = (pending ≡ 0) ⊎ IsSome held

-- so many jobs were taken, whose numbers are those from the first that was given on; whatever stood
-- in a row stands there still, no answer was given, and feeding ended for this refusal, if for one,
-- which is the first cause that its calls met; without one a prompt post that held whatever was out
-- holds a job then, or nothing is pending
pub record Feeds (p q : PostView) (old new : BookState) (taken : ℕ) (refused : Option IssueFault)
    : Type 0 where
  pub stays : (need : Need) → (row_of old need ≡ Empty) ⊎ (row_of new need ≡ row_of old need)
  pub keeps : KeepsWhatIsKnown old new q
  pub right : IsRightBook new
  pub floor : q.floor ≡ floor_after p.floor (given_of old) taken
  pub document : SameDocument old new
  pub silent : q.answers ≡ p.answers
  pub ended : FedUntil p q old new taken refused
  pub calls : GoesByCalls p q old new (option_map cause_of_issue refused)
  pub prompt : HoldsAllOut old p → refused ≡ None → HoldsWork (pending_of new) q.held

-- so a post was fed, whatever ended it
pub record FeedsAll (p q : PostView) (old new : BookState) (taken : ℕ) : Type 0 where
  pub refused : Option IssueFault
  pub feeds : Feeds p q old new taken refused
