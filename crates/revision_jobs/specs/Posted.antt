-- What a post does with jobs.
use Rattle.std.specs.Prelude.{◌≡◌, ℕ, ◌+◌, List, [], ◌∷◌, ◌++◌, Option, Some, None, IsSome, Bool, true, false, Err, ⊤}
use Rattle.worlds.specs.Stop.{CountsStop}
use Rattle.step_engine.specs.declared.evolved.EvolveFault.{EvolveFault}
use Rattle.revision_jobs.specs.declared.entries.Entries.{Entries}
use Rattle.revision_jobs.specs.declared.answer.Job.{Job}
use Rattle.revision_jobs.specs.declared.post.Sent.{Sent}
use Rattle.revision_jobs.specs.declared.post.Sent.TheVariants.{Taken, Full, Closed}
use Rattle.revision_jobs.specs.declared.post.Received.{Received}
use Rattle.revision_jobs.specs.declared.post.Received.TheVariants.{Answer, Nothing, Ended}
use Rattle.revision_jobs.specs.Answer.{JobResult}
use Rattle.revision_jobs.specs.Entries.{IsOf, entry_of}
use Rattle.revision_jobs.specs.Room.{HasNoRoom}

-- a post: its table, how many squares a step may keep, one more than the greatest number that it
-- took, the answers that it gave, whether it is prompt, the job that it holds if it is, how often
-- it was asked to send or to receive, how often a flag was seen raised for its answers, and whether
-- it said Closed or Ended
pub record PostView : Type 0 where
  pub table : Entries
  pub limit : ℕ
  pub floor : ℕ
  pub answers : List JobResult
  pub is_prompt : Bool
  pub held : Option Job
  pub asked : ℕ
  pub stops : ℕ
  pub is_over : Bool

-- what a post was asked and what it said: the answers that it gave, how often it was asked, how
-- often a flag was seen raised for its answers, and whether it said Closed or Ended
pub record PostHistory : Type 0 where
  pub answers : List JobResult
  pub asked : ℕ
  pub stops : ℕ
  pub is_over : Bool

-- a post that wasn't asked yet
abbrev pub no_history : PostHistory
no_history = record { answers = []; asked = 0; stops = 0; is_over = false }

-- the floor rises to just above a job that was taken; a job that wasn't comes back
abbrev pub IsSent : Job → ℕ → ℕ → Sent → Type 0
IsSent job before after Taken = after ≡ job.number + 1
IsSent job before after (Full back) = (back ≡ job) × (after ≡ before)
IsSent job before after (Closed back) = (back ≡ job) × (after ≡ before)

-- the answer's job is of the table, and was worked with this limit; that there was no room is said
-- only where its entry has none at it
pub record IsOwnAnswer (table : Entries) (limit : ℕ) (answer : JobResult) : Type 0 where
  pub own : IsOf table answer.job.place
  pub named : answer.limit ≡ limit
  pub room : answer.outcome ≡ Err EvolveFault.NoRoom → HasNoRoom limit (entry_of answer.job.place)

-- an answer that is given is of the table, and at the limit
abbrev pub IsReceived : Entries → ℕ → Received → Type 0
IsReceived table limit (Answer answer) = IsOwnAnswer table limit answer
IsReceived table limit Nothing = ⊤
IsReceived table limit Ended = ⊤

-- the answers that were given before, and behind them the one that is given now
abbrev pub answers_with : List JobResult → Received → List JobResult
answers_with before (Answer answer) = before ++ answer ∷ []
answers_with before Nothing = before
answers_with before Ended = before

-- a post is over once it takes no more jobs
abbrev pub over_sent : Bool → Sent → Bool
over_sent before Taken = before
over_sent before (Full back) = before
over_sent before (Closed back) = true

-- or once no answer comes any more
abbrev pub over_received : Bool → Received → Bool
over_received before (Answer answer) = before
over_received before Nothing = before
over_received before Ended = true

-- a prompt post takes a job exactly where it holds none, and then holds that one
abbrev pub SendsPromptly : Job → Option Job → Option Job → Sent → Type 0
SendsPromptly job before after Taken = (before ≡ None) × (after ≡ Some job)
SendsPromptly job before after (Full back) = IsSome before × (after ≡ before)
SendsPromptly job before after (Closed back) = ⊥

-- it answers the job that it holds, and then holds none
abbrev pub ReceivesPromptly : Option Job → Option Job → Received → Type 0
ReceivesPromptly before after (Answer answer) = (before ≡ Some answer.job) × (after ≡ None)
ReceivesPromptly before after Nothing = (before ≡ None) × (after ≡ None)
ReceivesPromptly before after Ended = ⊥

-- a flag was seen raised, once, exactly where a post answers that a job was stopped
abbrev pub SeesStop : ℕ → ℕ → Received → Type 0
SeesStop before after (Answer answer) =
    CountsStop answer.outcome (Err EvolveFault.Stopped) before after
SeesStop before after Nothing = after ≡ before
SeesStop before after Ended = after ≡ before

-- a post was asked once more, and has the table, the limit and the kind that it had
pub record IsAsked (old new : PostView) : Type 0 where
  pub table : new.table ≡ old.table
  pub limit : new.limit ≡ old.limit
  pub kind : new.is_prompt ≡ old.is_prompt
  pub asked : new.asked ≡ old.asked + 1

-- a post was asked to take a job, and said this: no answer was given and no flag seen raised, a job
-- that was taken raises the floor, one that wasn't comes back
pub record Sends (job : Job) (old new : PostView) (said : Sent) : Type 0 where
  pub same : IsAsked old new
  pub answers : new.answers ≡ old.answers
  pub stops : new.stops ≡ old.stops
  pub sent : IsSent job old.floor new.floor said
  pub over : new.is_over ≡ over_sent old.is_over said
  pub prompt : old.is_prompt ≡ true → SendsPromptly job old.held new.held said

-- a post was asked for an answer, and said this: an answer is one of its table and at its limit,
-- and stands behind those that were given; it says that a job was stopped exactly where a flag was
-- seen raised for it
pub record Receives (old new : PostView) (said : Received) : Type 0 where
  pub same : IsAsked old new
  pub floor : new.floor ≡ old.floor
  pub own : IsReceived old.table old.limit said
  pub answers : new.answers ≡ answers_with old.answers said
  pub stops : SeesStop old.stops new.stops said
  pub over : new.is_over ≡ over_received old.is_over said
  pub prompt : old.is_prompt ≡ true → ReceivesPromptly old.held new.held said

-- the history with one more send, which came to this
abbrev pub history_sent : PostHistory → Sent → PostHistory
history_sent before said = record {
  answers = before.answers;
  asked = before.asked + 1;
  stops = before.stops;
  is_over = over_sent before.is_over said;
}

-- and with one more receive
abbrev pub history_received : PostHistory → Received → PostHistory
history_received before said = record {
  answers = answers_with before.answers said;
  asked = before.asked + 1;
  stops = before.stops;
  is_over = over_received before.is_over said;
}

-- it is noted that a post was asked for an answer, and said this
pub record NotesReceived (old new : PostHistory) (said : Received) : Type 0 where
  pub answers : new.answers ≡ answers_with old.answers said
  pub asked : new.asked ≡ old.asked + 1
  pub stops : SeesStop old.stops new.stops said
  pub over : new.is_over ≡ over_received old.is_over said
