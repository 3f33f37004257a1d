-- Jobs in two queues, as what was sent by both together.
use Rattle.std.specs.Prelude.{◌≡◌, ℕ, ◌+◌, ◌≤◌, List, [], sum_by}
use Rattle.revision_jobs.specs.declared.entries.Entries.{Entries}
use Rattle.job_queue.specs.declared.rule.Slip.{Slip}
use Rattle.job_queue.specs.Slips.{floor_of}

-- the table of a post's jobs, and what it sent into both, the latest last
pub record Outgoing : Type 0 where
  pub table : Entries
  pub sent : List Slip

-- one that sent nothing yet
abbrev pub new_outgoing : Entries → Outgoing
new_outgoing entries = record { table = entries; sent = [] }

-- each slip was sent as often as into the two queues together, and no number in them is above the
-- last one
pub record IsSplit (steps views sent : List Slip) : Type 0 where
  pub parts : (weight : Slip → ℕ) →
      sum_by weight sent ≡ sum_by weight steps + sum_by weight views
  pub steps_below : floor_of steps ≤ floor_of sent
  pub views_below : floor_of views ≤ floor_of sent
