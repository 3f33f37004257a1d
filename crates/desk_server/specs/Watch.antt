-- What is seen of a run: the desk after each reply but `bye`, and the settlings that compute one.
use Rattle.std.specs.Prelude.{◌≡◌, ◌⊎◌, ℕ, ◌+◌, true, List, [], ◌∷◌, ◌++◌, Option, ⊤}
use Rattle.std.specs.Prelude.{IfSome, Result, Ok, Err}
use Rattle.std.specs.Io.KnownBytes.{Appends}
use Rattle.std.specs.Io.Iter.{u64_saturate}
use Rattle.script_lines.specs.Ahead.{LineReading}
use Rattle.script_lines.specs.Counted.{CountedWriting}
use Rattle.revision_jobs.specs.Answer.{JobResult}
use Rattle.revision_jobs.specs.Posted.{PostView}
use Rattle.dependency_book.specs.BookState.{BookState}
use Rattle.dependency_book.specs.Shown.{IsPending}
use Rattle.desk_core.specs.Looks.{LooksOn}
use Rattle.desk_script.specs.Asks.{Ask, Obey}
use Rattle.desk_script.specs.declared.command.Command.TheVariants as command
use Rattle.desk_server.specs.Shortage.{Shortage, AllCausedOver}
use Rattle.desk_server.specs.Script.{Answered, answered_with, but_bye, replies_with}
use Rattle.desk_server.specs.Told.{IsRefused, ends}
use Rattle.desk_server.specs.Served.{GivesAnswer}
use Rattle.desk_server.specs.Desks.{IsOpened, LeavesDesk}
use Rattle.desk_server.specs.declared.reply.Reply.{Reply}

-- a desk was noted, or passed over and counted; the count stays at 2 ^ 64 - 1
abbrev pub PublishedOrCounted
    : {V : Type 0} → (V → BookState → V → Type 0) → ℕ → ℕ → V → BookState → V → Type 0
PublishedOrCounted notes count total old d new =
    (notes old d new × (total ≡ count)) ⊎ ((new ≡ old) × (total ≡ u64_saturate (count + 1)))

-- what is asked has something to compute at this desk: a settling, or a bookmark that is pending
abbrev pub HasToCompute : Ask → BookState → Type 0
HasToCompute (Obey command.Settle) d = ⊤
HasToCompute (Obey (command.Show id)) d = IsPending d id
HasToCompute _ d = ⊥

-- what is asked takes answers from the post: so does what has to be computed, and a poll
abbrev pub AsksForAnswers : Ask → BookState → Type 0
AsksForAnswers (Obey command.Settle) d = ⊤
AsksForAnswers (Obey (command.Show id)) d = IsPending d id
AsksForAnswers (Obey command.Poll) d = ⊤
AsksForAnswers _ d = ⊥

-- the post gave more answers to what takes some, and to all else none
pub record Draws (ask : Ask) (first : BookState) (p q : PostView) : Type 0 where
  pub later : List JobResult
  pub gave : q.answers ≡ p.answers ++ later
  pub none : ¬ AsksForAnswers ask first → later ≡ []

-- what was asked was computed at this desk, which was looked at as that began, and once more after
-- each answer that the post gave; its document stayed the same
pub record WatchesComputing {V : Type 0} (notes : V → BookState → V → Type 0) (ask : Ask)
    (p q : PostView) (first last : BookState) (old new : V)
    : Type 0 where
  pub computes : HasToCompute ask first
  pub document : last.plan ≡ first.plan
  pub looks : LooksOn notes p q first old new

-- before the reply to what was asked it was computed, or nobody looked: nothing had to be computed,
-- or it was refused; before `bye` the post wasn't asked either
pub record WatchesReply {V : Type 0} (notes : V → BookState → V → Type 0) (ask : Ask)
    (reply : Reply) (p q : PostView) (first last : BookState) (old new : V)
    : Type 0 where
  pub post : Draws ask first p q
  pub looks : WatchesComputing notes ask p q first last old new
      ⊎ ((new ≡ old) × (HasToCompute ask first → IsRefused reply))
  pub bye : ends reply ≡ true → (q ≡ p) × (new ≡ old)

-- where a run stands: how many desks were passed over, its post, its desk and what was seen
pub record Moment (V : Type 0) : Type 0 where
  pub missed : ℕ
  pub post : PostView
  pub desk : BookState
  pub seen : V

abbrev pub moment : {V : Type 0} → ℕ → PostView → BookState → V → Moment V
moment missed post desk seen =
    record { missed = missed; post = post; desk = desk; seen = seen }

-- what was asked was answered by this reply, before which nobody looked unless it was computed;
-- then the desk at which it was given was noted, or passed over and counted
pub record NotesReply {V : Type 0} (notes : V → BookState → V → Type 0) (old : Moment V)
    (one : Answered) (new : Moment V)
    : Type 0 where
  pub reply : Reply
  pub gives : GivesAnswer one.1 reply new.desk
  pub left : LeavesDesk one.0 reply old.post new.post old.desk new.desk
  pub watched : V
  pub before : WatchesReply notes one.0 reply old.post new.post old.desk new.desk old.seen watched
  pub noted : PublishedOrCounted notes old.missed new.missed watched new.desk new.seen

-- so it was for each of these in turn
abbrev pub NotesEach
    : {V : Type 0} → (V → BookState → V → Type 0) → Moment V → Moment V → List Answered → Type 0
NotesEach notes old new [] = new ≡ old
NotesEach {V} notes old new (one ∷ rest) =
    (next : Moment V) × NotesReply notes old one next × NotesEach notes next new rest

-- the replies to the script were written, for some shortages, and the desk after each of them but
-- `bye` in turn was noted, or passed over and counted, from the opening one on
pub record NotesScript {V : Type 0} (notes : V → BookState → V → Type 0) (missed : ℕ)
    (p q : PostView) (before after : Option (List ℕ)) (old new : V) (script : List ℕ)
    : Type 0 where
  pub shortages : List Shortage
  pub caused : AllCausedOver p.is_prompt shortages
  pub wrote : Appends before after (replies_with script shortages)
  pub first : BookState
  pub opens : IsOpened first
  pub last : BookState
  pub noted : NotesEach notes (moment 0 p first old) (moment missed q last new)
      (but_bye (answered_with script shortages))

-- so it was for the script that this reader had, where that is known
abbrev pub NotesReplies
    : {R W V : Type 0} → (V → BookState → V → Type 0) → ℕ → PostView → PostView → LineReading R
    → CountedWriting W → CountedWriting W → V → V → Type 0
NotesReplies notes missed p q r w x old new =
    IfSome r.ahead.bytes (NotesScript notes missed p q w.contents x.contents old new)

-- what was asked was answered by a reply that wasn't written whole
pub record WatchesUntold {V : Type 0} (notes : V → BookState → V → Type 0) (old : Moment V)
    (one : Answered) (q : PostView) (new : V)
    : Type 0 where
  pub reply : Reply
  pub desk : BookState
  pub gives : GivesAnswer one.1 reply desk
  pub left : LeavesDesk one.0 reply old.post q old.desk desk
  pub watched : WatchesReply notes one.0 reply old.post q old.desk desk old.seen new

-- the post gave nothing more and nobody looked
abbrev pub StandsStill : {V : Type 0} → Moment V → PostView → V → Type 0
StandsStill old q new = (q ≡ old.post) × (new ≡ old.seen)

-- so it was, or the next of these was answered
abbrev pub WatchesNext
    : {V : Type 0} → (V → BookState → V → Type 0) → Moment V → List Answered → PostView → V → Type 0
WatchesNext notes old [] q new = StandsStill old q new
WatchesNext notes old (one ∷ rest) q new =
    StandsStill old q new ⊎ WatchesUntold notes old one q new

-- a beginning of the replies to a script was given, for some shortages, and the desk after each of
-- them but `bye` in turn was noted, or passed over; then the next may have been computed
pub record NotesFront {V : Type 0} (notes : V → BookState → V → Type 0) (p q : PostView)
    (old new : V) (script : List ℕ)
    : Type 0 where
  pub shortages : List Shortage
  pub caused : AllCausedOver p.is_prompt shortages
  pub given : List Answered
  pub later : List Answered
  pub front : answered_with script shortages ≡ given ++ later
  pub first : BookState
  pub opens : IsOpened first
  pub last : Moment V
  pub noted : NotesEach notes (moment 0 p first old) last (but_bye given)
  pub unanswered : WatchesNext notes last later q new

-- the script that this reader had, where that is known, was answered to its end, and so many desks
-- were passed over; or a beginning of it was
abbrev pub NotesRun
    : {R W V E : Type 0} → (V → BookState → V → Type 0) → Result ℕ E → PostView → PostView
    → LineReading R → CountedWriting W → CountedWriting W → V → V → Type 0
NotesRun notes (Ok missed) p q r w x old new = NotesReplies notes missed p q r w x old new
NotesRun notes (Err fault) p q r w x old new =
    IfSome r.ahead.bytes (NotesFront notes p q old new)
