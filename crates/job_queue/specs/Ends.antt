-- What contracts see of a queue's ends.
use Rattle.std.specs.Prelude.{◌≡◌, ℕ, ◌+◌, ◌-◌, List, [], ◌∷◌, ◌++◌, length, map, sum_by}
use Rattle.atomic_table.specs.Seated.{TableId}
use Rattle.atomic_table.specs.declared.badge.Badge.{Badge}
use Rattle.crossbeam_channel.specs.Claims.{Pass}
use Rattle.crossbeam_channel.specs.declared.flavors.array.Doing.{Doing}
use Rattle.crossbeam_channel.specs.declared.flavors.array.Key.{Key}
use Rattle.crossbeam_channel.specs.declared.flavors.array.Rows.{Rows}
use Rattle.revision_jobs.specs.declared.answer.Job.{Job}
use Rattle.revision_jobs.specs.declared.entries.Entries.{Entries}
use Rattle.revision_jobs.specs.declared.post.Sent.{Sent}
use Rattle.revision_jobs.specs.declared.post.Sent.TheVariants.{Taken, Full, Closed}
use Rattle.job_queue.specs.declared.rule.EndView.{EndView}
use Rattle.job_queue.specs.declared.rule.Slip.{Slip}
use Rattle.job_queue.specs.Slips.{AreAmong, NoneTwice, slip_of}

-- which queue it is
pub record Queue : Type 0 where
  pub words : TableId
  pub keys : Badge (Key Job)

-- the queue of a channel
abbrev pub queue_at : {Q M L A : Type 0} →
    Rows (Badge (Key Job)) (Doing Job EndView) Q M (Key Job) L A → Queue
queue_at c = record { words = c.stamps.shared.table_id; keys = c.stamps.shared.key }

-- what an end knows of that queue, which is in no call
abbrev pub IsPassOf : Queue → Pass Job EndView → Type 0
IsPassOf queue pass =
    (pass.table_id ≡ queue.words) × (pass.me.0.of ≡ queue.keys) × (pass.me.1 ≡ [])

-- the queue and the table of the sender's jobs, what it sent, the latest last, what the takers took
-- that came back to it, and how many takers didn't
pub record Sending : Type 0 where
  pub queue : Queue
  pub table : Entries
  pub sent : List Slip
  pub back : List Slip
  pub out : ℕ

-- the queue and the table of a taker's jobs, and what it took, the latest last
pub record Taking : Type 0 where
  pub queue : Queue
  pub table : Entries
  pub taken : List Slip

-- a sender that sent nothing yet, to so many takers
abbrev pub new_sender : Queue → ℕ → Entries → Sending
new_sender queue takers entries =
    record { queue = queue; table = entries; sent = []; back = []; out = takers }

-- a taker that took nothing yet
abbrev pub new_taker : Queue → Entries → Taking
new_taker queue entries = record { queue = queue; table = entries; taken = [] }

-- a sender after a job was offered, but for what it sent
abbrev pub with_sent : List Slip → Sending → Sending
with_sent sent s = record s { sent = sent }

-- a sender to which a taker came back
abbrev pub with_back : Taking → Sending → Sending
with_back taker s = record s { back = s.back ++ taker.taken; out = s.out - 1 }

-- what was taken is, together with what waits, what was sent, however slips are weighed: each slip
-- stands there as often, and no number twice
pub record AddsUp (sent taken : List Slip) : Type 0 where
  pub waiting : List Slip
  pub balance : (weight : Slip → ℕ) →
      sum_by weight sent ≡ sum_by weight taken + sum_by weight waiting
  pub once : NoneTwice (taken ++ waiting)

-- at a moment of the call the queue held 16 jobs, which are among those that were sent
abbrev pub WasFull : List Slip → Type 0
WasFull sent = (jobs : List Job) × (length jobs ≡ 16) × AreAmong (map slip_of jobs) sent

-- a job that was taken stands behind what was sent; one that wasn't comes back, and Full only from
-- a full queue
abbrev pub IsOffered : Job → List Slip → List Slip → Sent → Type 0
IsOffered job before after Taken = after ≡ before ++ slip_of job ∷ []
IsOffered job before after (Full back) = (back ≡ job) × (after ≡ before) × WasFull before
IsOffered job before after (Closed back) = (back ≡ job) × (after ≡ before)
