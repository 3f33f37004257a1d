-- How a reply reads, with the texts that the desk knows.
use Rattle.std.specs.Prelude.{◌≡◌, ℕ, List, ◌++◌, Bool, true, false, Option, None, Some, IfSome, IsSome, is_some, ⊤}
use Rattle.std.specs.List.{AllByRecursion}
use Rattle.schedule.specs.declared.document.Bookmark.{Bookmark}
use Rattle.schedule.specs.declared.fault.EditFault.TheVariants.{NoSuchBookmark}
use Rattle.revision_jobs.specs.Answer.{JobResult}
use Rattle.revision_jobs.specs.Posted.{PostView}
use Rattle.dependency_book.specs.BookState.{BookState, text_known, pending_of, NothingOut}
use Rattle.desk_events.specs.Wanted.{bookmark_in}
use Rattle.dependency_book.specs.Shown.{IsPending}
use Rattle.dependency_book.specs.ShownRows.{shown_rows}
use Rattle.desk_core.specs.Polling.{Polls, PollsPromptly}
use Rattle.desk_core.specs.Settling.{Explains}
use Rattle.desk_script.specs.Asks.{Ask, Obey}
use Rattle.desk_script.specs.declared.command.Command.TheVariants as command
use Rattle.desk_server.specs.declared.reply.Reply.{Reply}
use Rattle.desk_server.specs.declared.reply.Reply.TheVariants as reply
use Rattle.desk_server.specs.Jobs.{IsDoneWith}
use Rattle.desk_server.specs.Faults.{fault_of, of_edit}
use Rattle.desk_server.specs.Listed.{bookmark_line, listed_text}
use Rattle.desk_server.specs.Reply.{scripted_text, accepted_text, settled_text, working_text, unsettled_text, polled_text, current_text, pending_text, refused_text, help_text, bye_text}

-- a bookmark that is shown: no such one, or without or with its text
abbrev pub shown_text : ℕ → Option Bookmark → Option (List ℕ) → List ℕ
shown_text id None text = refused_text (of_edit NoSuchBookmark)
shown_text id (Some b) None = pending_text id
shown_text id (Some b) (Some text) = current_text id text

-- whether the text of the bookmark of this id is known
abbrev pub has_text : BookState → ℕ → Bool
has_text known id = is_some (text_known known id)

abbrev pub reply_text : BookState → Reply → List ℕ
reply_text known (reply.Accepted revision word number) = accepted_text revision word.now number
reply_text known reply.Settled = settled_text
reply_text known reply.Working = working_text
reply_text known (reply.Unsettled pending cause) = unsettled_text pending cause
reply_text known (reply.Shown id) =
    shown_text id (bookmark_in known.plan.bookmarks id) (text_known known id)
reply_text known (reply.Polled pending cause) = polled_text pending cause
reply_text known reply.Listed = listed_text known.plan (has_text known)
reply_text known (reply.Scripted script) = scripted_text script
reply_text known (reply.Refused reason) =
    refused_text (fault_of reason.number reason.name.now reason.place)
reply_text known reply.Help = help_text
reply_text known reply.Bye = bye_text

-- the line of a bookmark with the text that is known of it, if one is
abbrev pub row_line : Bookmark × Option (List ℕ) → List ℕ
row_line r = bookmark_line r.0 (is_some r.1)

-- whether the script ends with the reply
abbrev pub ends : Reply → Bool
ends reply.Bye = true
ends _ = false

-- something was refused
abbrev pub IsRefused : Reply → Type 0
IsRefused (reply.Refused reason) = ⊤
IsRefused _ = ⊥

-- the text of each bookmark is known
abbrev pub AllKnown : BookState → Type 0
AllKnown d = AllByRecursion (λ (row : Bookmark × Option (List ℕ)). IsSome row.1) (shown_rows d)

-- what a reply tells of how many bookmarks are pending is so of the desk
abbrev pub TellsPending : Reply → BookState → Type 0
TellsPending reply.Settled d = AllKnown d
TellsPending (reply.Unsettled pending cause) d = pending ≡ pending_of d
TellsPending (reply.Polled pending cause) d = pending ≡ pending_of d
TellsPending _ d = ⊤

-- what is asked may take answers from the post
abbrev pub TakesAnswers : Ask → Type 0
TakesAnswers (Obey command.Settle) = ⊤
TakesAnswers (Obey (command.Show id)) = ⊤
TakesAnswers (Obey command.Poll) = ⊤
TakesAnswers _ = ⊥

-- what that leaves, by its reply and the answers that the post gave meanwhile: every text
-- known, or so many that aren't, then no job out, and a cause that is told is explained; where the
-- bookmark isn't current, nothing left to compute or no job out; after a poll so many that aren't
-- known, and a cause that is told is explained
abbrev pub Leaves : ℕ → List JobResult → Reply → BookState → BookState → Type 0
Leaves limit answers reply.Settled old new = pending_of new ≡ 0
Leaves limit answers (reply.Unsettled pending cause) old new =
    (pending ≡ pending_of new) × NothingOut new × IfSome cause (Explains limit old new answers)
Leaves limit answers (reply.Shown id) old new = IsPending new id → IsDoneWith new
Leaves limit answers (reply.Polled pending cause) old new =
    (pending ≡ pending_of new) × IfSome cause (Explains limit old new answers)
Leaves limit answers _ old new = ⊤

-- after a poll a prompt post has answered the job that it held, and no other, and unless a cause is
-- told, nothing is pending or it holds a job again
abbrev pub LeavesPromptly : PostView → PostView → Reply → Type 0
LeavesPromptly p q (reply.Polled pending cause) =
    PollsPromptly p q (record { pending = pending; cause = cause })
LeavesPromptly p q _ = ⊤

-- the post gave more answers, over which this is left at the post's limit, and by its kind
pub record LeavesOver (p q : PostView) (reply : Reply) (old new : BookState) : Type 0 where
  pub later : List JobResult
  pub gave : q.answers ≡ p.answers ++ later
  pub leaves : Leaves p.limit later reply old new
  pub prompt : p.is_prompt ≡ true → LeavesPromptly p q reply

-- the post was polled, and the reply tells what was found
abbrev pub PollsBy : PostView → PostView → BookState → BookState → Reply → Type 0
PollsBy p q old new (reply.Polled pending cause) =
    Polls p q old new (record { pending = pending; cause = cause })
PollsBy p q old new _ = ⊥
