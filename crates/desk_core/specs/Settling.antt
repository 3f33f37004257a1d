-- How settling ends, and what it leaves.
use Rattle.std.specs.Prelude.{◌≡◌, ◌⊎◌, ℕ, ◌+◌, ◌*◌, ◌<◌, ◌≤◌, true, List, length, Option, Some, None, IsSome, IfSome, Err, ⊤, ◌++◌}
use Rattle.std.specs.List.{Any}
use Rattle.step_engine.specs.declared.evolved.EvolveFault.{EvolveFault}
use Rattle.revision_jobs.specs.declared.answer.Job.{Job}
use Rattle.revision_jobs.specs.Answer.{JobResult}
use Rattle.revision_jobs.specs.Entries.{entry_of}
use Rattle.revision_jobs.specs.Posted.{PostView}
use Rattle.revision_jobs.specs.Room.{HasNoRoom}
use Rattle.revision_jobs.specs.Value.{Value}
use Rattle.desk_events.specs.declared.need.Need.{Need}
use Rattle.dependency_book.specs.declared.row.RowState.TheVariants.{Known}
use Rattle.dependency_book.specs.BookState.{BookState, given_of, row_of, expected, pending_of}
use Rattle.dependency_book.specs.Right.{IsRightBook}
use Rattle.desk_core.specs.Calls.{GoesByCalls}
use Rattle.desk_core.specs.declared.cause.Cause.{Cause}
use Rattle.desk_core.specs.declared.cause.Cause.TheVariants.{NoMemory, NoRoom, Stopped, NumbersSpent}
use Rattle.desk_core.specs.declared.settling.Settling.{Settling}
use Rattle.desk_core.specs.declared.settling.Settling.TheVariants.{Settled, Unsettled}

-- one of the answers says that its job gave up, for this reason
abbrev pub GaveUp : List JobResult → EvolveFault → Type 0
GaveUp answers fault = Any (λ (answer : JobResult). answer.outcome ≡ Err fault) answers

-- one of the answers says that its job gave up for want of room, and its job's entry has none at
-- this limit
abbrev pub FoundNoRoom : ℕ → List JobResult → Type 0
FoundNoRoom limit answers = Any (λ (answer : JobResult).
    (answer.outcome ≡ Err EvolveFault.NoRoom) × HasNoRoom limit (entry_of answer.job.place)) answers

-- an issue was refused since a first desk because memory ran out, and not every number was given
abbrev pub RanOut : BookState → BookState → Type 0
RanOut first d = (first.refused < d.refused) × (given_of d < 16777216)

-- a cause is that of an answer that was given since a first desk, for want of room to an entry that
-- has none at the limit, or of an issue that was refused since then: every number was given, or
-- else memory ran out
abbrev pub Explains : ℕ → BookState → BookState → List JobResult → Cause → Type 0
Explains limit first d answers NoMemory = GaveUp answers EvolveFault.NoMemory ⊎ RanOut first d
Explains limit first d answers NoRoom = FoundNoRoom limit answers
Explains limit first d answers Stopped = GaveUp answers EvolveFault.Stopped
Explains limit first d answers NumbersSpent = 16777216 ≤ given_of d

-- that a job was stopped is a cause only where a flag was seen raised meanwhile for an answer
abbrev pub SawStop : PostView → PostView → Cause → Type 0
SawStop p q NoMemory = ⊤
SawStop p q NoRoom = ⊤
SawStop p q Stopped = p.stops < q.stops
SawStop p q NumbersSpent = ⊤

-- a cause, if there is one, is explained by the answers that a post gave meanwhile, at its limit,
-- and where it is a stop by a flag that was seen raised, or by an issue that was refused meanwhile
pub record TellsCause (p q : PostView) (old new : BookState) (cause : Option Cause)
    : Type 0 where
  pub later : List JobResult
  pub gave : q.answers ≡ p.answers ++ later
  pub explained : IfSome cause (Explains p.limit old new later)
  pub stopped : IfSome cause (SawStop p q)

-- a post serves a desk: it is of the desk's table, and no number that it took is still to be
-- given
pub record Serves (d : BookState) (post : PostView) : Type 0 where
  pub table : post.table ≡ d.table
  pub numbers : post.floor ≤ given_of d

-- each job that is out is the one that a post holds
abbrev pub HoldsJobsOut : Option Job → BookState → Type 0
HoldsJobsOut held d = (need : Need) (job : Job) → expected d need ≡ Some job → held ≡ Some job

-- a post is prompt, and holds whatever is out
pub record HoldsAllOut (d : BookState) (post : PostView) : Type 0 where
  pub prompt : post.is_prompt ≡ true
  pub held : HoldsJobsOut post.held d

-- a post that served the one desk serves the other, at its limit and of its kind; if it held
-- whatever was out it does so still
pub record ServesOn (p q : PostView) (old new : BookState) : Type 0 where
  pub serves : Serves new q
  pub limit : q.limit ≡ p.limit
  pub kind : q.is_prompt ≡ p.is_prompt
  pub held : HoldsAllOut old p → HoldsAllOut new q

-- how many marks and bookmarks a document has
abbrev pub rows_of : BookState → ℕ
rows_of d = 1 + (length d.arrivals + length d.texts)

-- each row whose value was known has it still
abbrev pub KeepsKnown : BookState → BookState → Type 0
KeepsKnown old new =
    (need : Need) (value : Value) → row_of old need ≡ Known value → row_of new need ≡ Known value

-- each job that is out was so before, or was sent: the floor of the post is above its number
abbrev pub OutOrSent : BookState → BookState → ℕ → Type 0
OutOrSent old new floor =
    (need : Need) (job : Job) → expected new need ≡ Some job
    → (expected old need ≡ Some job) ⊎ (job.number < floor)

-- what was known is so still, what is out was so before or was sent to the post, and the document
-- and the table are the same
pub record KeepsWhatIsKnown (old new : BookState) (post : PostView) : Type 0 where
  pub known : KeepsKnown old new
  pub out : OutOrSent old new post.floor
  pub plan : new.plan ≡ old.plan
  pub table : new.table ≡ old.table

-- numbers of jobs were given, at most so many
abbrev pub GivesAtMost : ℕ → BookState → BookState → Type 0
GivesAtMost most old new = (given_of old ≤ given_of new) × (given_of new ≤ given_of old + most)

-- settling for so many turns keeps what it has to, gives at most a number a turn, and all is right;
-- no document has more rows than 1,000,000 turns are enough for
pub record Settles (old new : BookState) (turns : ℕ) (post : PostView) : Type 0 where
  pub keeps : KeepsWhatIsKnown old new post
  pub right : IsRightBook new
  pub given : GivesAtMost turns old new
  pub enough : 4 * rows_of old ≤ 1000000

-- why a settling over these answers left bookmarks pending: for its cause, if one is told, and else
-- the post is over or was asked in every turn
abbrev pub IsWhy : ℕ → PostView → PostView → BookState → BookState → List JobResult
    → Option Cause → Type 0
IsWhy turns p q old new later (Some cause) =
    Explains p.limit old new later cause × SawStop p q cause
IsWhy turns p q old new later None = (q.is_over ≡ true) ⊎ (p.asked + turns ≤ q.asked)

-- settling over these answers ends with every bookmark current, or with so many pending and why
abbrev pub Ends : ℕ → PostView → PostView → BookState → BookState → List JobResult
    → Settling → Type 0
Ends turns p q old new later Settled = pending_of new ≡ 0
Ends turns p q old new later (Unsettled pending cause) =
    (pending ≡ pending_of new) × (0 < pending) × (pending ≤ length new.plan.bookmarks)
    × IsWhy turns p q old new later cause

-- where bookmarks are left pending, this is the cause that is told, or none is
abbrev pub Tells : Option Cause → Settling → Type 0
Tells first Settled = ⊤
Tells first (Unsettled pending cause) = cause ≡ first

-- so it ends over the answers that a post gave meanwhile, by calls whose first cause it tells
pub record EndsOver (turns : ℕ) (p q : PostView) (old new : BookState) (ending : Settling)
    : Type 0 where
  pub later : List JobResult
  pub gave : q.answers ≡ p.answers ++ later
  pub ends : Ends turns p q old new later ending
  pub first : Option Cause
  pub calls : GoesByCalls p q old new first
  pub tells : Tells first ending

-- so it ends with this number pending: Settled where none is, and else with the cause, if there is
-- one
abbrev pub IsEnding : ℕ → Option Cause → Settling → Type 0
IsEnding pending cause Settled = pending ≡ 0
IsEnding pending cause (Unsettled told why) = (told ≡ pending) × (why ≡ cause) × (0 < pending)

-- if it ends with some pending, a cause is told
abbrev pub HasCause : Settling → Type 0
HasCause Settled = ⊤
HasCause (Unsettled pending cause) = IsSome cause
