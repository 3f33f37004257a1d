-- The desks that the commands of a script leave, one after another, and what is told of them.
use Rattle.std.specs.Prelude.{◌≡◌, ◌⊎◌, Bool, List, [], ◌∷◌, ℕ, Ok, Option, ⊤}
use Rattle.rule_tree.specs.declared.rule.Rule.{Rule as FileRule}
use Rattle.rule_tree.specs.Rule.{rule_of}
use Rattle.plane_core.specs.declared.loaded.Loaded.{Loaded}
use Rattle.multistate_rle.specs.Pattern.{pattern_of}
use Rattle.multistate_macrocell.specs.Pattern as macrocells
use Rattle.schedule.specs.declared.edit.Edited.{Edited}
use Rattle.schedule.specs.Asked.{Asked, asked_of, ReplaceRule, ReplaceStart}
use Rattle.revision_jobs.specs.Posted.{PostView}
use Rattle.dependency_book.specs.BookState.{BookState, opened, pending_of}
use Rattle.dependency_book.specs.Right.{IsRightBook}
use Rattle.dependency_book.specs.Shown.{IsPending}
use Rattle.desk_core.specs.declared.cause.Cause.{Cause}
use Rattle.desk_core.specs.Calls.{GoesByCalls}
use Rattle.desk_core.specs.Edited.{Makes}
use Rattle.desk_core.specs.Settling.{KeepsKnown}
use Rattle.desk_script.specs.Asks.{Ask, Obey, Take}
use Rattle.desk_script.specs.declared.command.Command.TheVariants as command
use Rattle.desk_script.specs.declared.format.Format.{Format}
use Rattle.desk_script.specs.declared.format.Format.TheVariants as format
use Rattle.desk_server.specs.Script.{Answered}
use Rattle.desk_server.specs.Told.{IsRefused, LeavesOver, TakesAnswers, TellsPending}
use Rattle.desk_server.specs.Served.{GivesAnswer}
use Rattle.desk_server.specs.declared.reply.Reply.{Reply}
use Rattle.desk_server.specs.declared.reply.Reply.TheVariants.{Listed, Polled, Settled, Shown, Unsettled}

-- an edit was made: what it keeps is known still
pub record Revised (asked : Asked) (old new : BookState) : Type 0 where
  pub edited : Edited
  pub makes : Makes asked old new edited
  pub right : IsRightBook new

-- so it was, or it was refused, and then nothing changed
abbrev pub RevisedOrSame : Asked → BookState → BookState → Type 0
RevisedOrSame asked old new = (new ≡ old) ⊎ Revised asked old new

-- calls of `issue`, `collect` and `cancel` led to the desk, in which each answer was collected that
-- the post gave meanwhile; `first` is the first cause that they met, if they met one, and whatever
-- was known is known still
pub record Learned (p q : PostView) (old new : BookState) : Type 0 where
  pub first : Option Cause
  pub calls : GoesByCalls p q old new first
  pub known : KeepsKnown old new
  pub right : IsRightBook new

-- so it was, and the cause is the first that was met, unless nothing is pending
abbrev pub ComputedFor : Option Cause → PostView → PostView → BookState → BookState → Type 0
ComputedFor cause p q old new =
    (learned : Learned p q old new) × ((pending_of new ≡ 0) ⊎ (cause ≡ learned.first))

-- the edit that a text of a format means, if it means one
abbrev pub MeansEdit : Format → List ℕ → Asked → Type 0
MeansEdit format.Rule text asked =
    (rule : FileRule) × (rule_of text ≡ Ok rule) × (asked ≡ ReplaceRule rule)
MeansEdit format.Rle text asked =
    (loaded : Loaded) × (pattern_of text ≡ Ok loaded) × (asked ≡ ReplaceStart loaded.plane)
MeansEdit format.Macrocell text asked =
    (loaded : Loaded) × (macrocells.pattern_of text ≡ Ok loaded)
    × (asked ≡ ReplaceStart loaded.plane)

-- a text was taken, or refused
abbrev pub TakenOrSame : Format → List ℕ → BookState → BookState → Type 0
TakenOrSame format text old new =
    (new ≡ old) ⊎ ((asked : Asked) × MeansEdit format text asked × Revised asked old new)

-- the reply to a settling; the cause that it tells is the first that was met
abbrev pub EndsSettling : Reply → Option Cause → Type 0
EndsSettling Settled first = ⊤
EndsSettling (Unsettled pending cause) first = cause ≡ first
EndsSettling _ first = ⊥

-- the reply to a poll; so is the cause that it tells
abbrev pub EndsPoll : Reply → Option Cause → Type 0
EndsPoll (Polled pending cause) first = cause ≡ first
EndsPoll _ first = ⊥

-- the bookmark of this id is shown, or that is refused
abbrev pub ShowsBookmark : ℕ → Reply → Type 0
ShowsBookmark id reply = (reply ≡ Shown id) ⊎ IsRefused reply

-- nothing changed, and the post gave no answer
abbrev pub StaysAt : PostView → PostView → BookState → BookState → Type 0
StaysAt p q old new = (new ≡ old) × (q.answers ≡ p.answers)

-- the desk that what is asked leaves over a post, and the reply that goes with it: an edit revises
-- the desk; a settling, a poll, a show of what is pending and what sends jobs lead to it by calls;
-- all else leaves it as it is
abbrev pub IsLeftBy : Ask → Reply → PostView → PostView → BookState → BookState → Type 0
IsLeftBy (Obey (command.Edit edit)) reply p q old new = RevisedOrSame (asked_of edit) old new
IsLeftBy (Obey command.Settle) reply p q old new =
    (learned : Learned p q old new) × EndsSettling reply learned.first
IsLeftBy (Obey command.Work) reply p q old new = Learned p q old new
IsLeftBy (Obey command.Poll) reply p q old new =
    (learned : Learned p q old new) × EndsPoll reply learned.first
IsLeftBy (Obey (command.Show id)) reply p q old new =
    ShowsBookmark id reply × (StaysAt p q old new ⊎ (IsPending old id × Learned p q old new))
IsLeftBy (Obey (command.Peek id)) reply p q old new = ShowsBookmark id reply × (new ≡ old)
IsLeftBy (Obey command.List) reply p q old new = (reply ≡ Listed) × (new ≡ old)
IsLeftBy (Take format text) reply p q old new = TakenOrSame format text old new
IsLeftBy _ reply p q old new = new ≡ old

-- so a desk is left, of which the reply tells truly how many texts it doesn't know; what takes
-- answers leaves such jobs, and to what takes none the post gave none; the post is of the kind that
-- it was
pub record LeavesDesk (ask : Ask) (reply : Reply) (p q : PostView) (old new : BookState)
    : Type 0 where
  pub by : IsLeftBy ask reply p q old new
  pub pending : TellsPending reply new
  pub jobs : TakesAnswers ask → LeavesOver p q reply old new
  pub silent : ¬ TakesAnswers ask → q.answers ≡ p.answers
  pub kind : q.is_prompt ≡ p.is_prompt

-- the desk has the opening document, and nothing is known or out
abbrev pub IsOpened : BookState → Type 0
IsOpened d = d ≡ opened d.table 0

-- where a script stands: its desk, and the post that its jobs are sent to
pub record Standing : Type 0 where
  pub post : PostView
  pub desk : BookState

abbrev pub standing : PostView → BookState → Standing
standing post desk = record { post = post; desk = desk }

-- the desk that was left gave the answer: its reply shows and lists as current just those bookmarks
-- whose texts this desk knows
pub record AnswersAt (one : Answered) (old new : Standing) : Type 0 where
  pub reply : Reply
  pub gives : GivesAnswer one.1 reply new.desk
  pub left : LeavesDesk one.0 reply old.post new.post old.desk new.desk

-- so it was for each of these in turn
abbrev pub AnswersAtEach : Standing → Standing → List Answered → Type 0
AnswersAtEach old new [] = new ≡ old
AnswersAtEach old new (one ∷ rest) =
    (next : Standing) × AnswersAt one old next × AnswersAtEach next new rest

-- so it was from the opening on, over a post that was this and became that
pub record AnswersOver (p q : PostView) (given : List Answered) : Type 0 where
  pub first : BookState
  pub opens : IsOpened first
  pub right : IsRightBook first
  pub last : BookState
  pub each : AnswersAtEach (standing p first) (standing q last) given

-- so it was over some post, which is prompt or not
pub record AnswersAtDesks (prompt : Bool) (given : List Answered) : Type 0 where
  pub before : PostView
  pub after : PostView
  pub kind : before.is_prompt ≡ prompt
  pub over : AnswersOver before after given
