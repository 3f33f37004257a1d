-- Slips: what names a job in the lists of a queue.
use Rattle.std.specs.Prelude.{ℕ, ◌+◌, ◌≤◌, ◌==◌, List, [], ◌∷◌, count_by, sum_by, ⊤}
use Rattle.revision_jobs.specs.declared.answer.Job.{Job}
use Rattle.revision_jobs.specs.Entries.{index_of}
use Rattle.job_queue.specs.declared.rule.Slip.{Slip}

-- the slip of a job: its number, with the index of its place
abbrev pub slip_of : Job → Slip
slip_of job = record { number = job.number; index = index_of job.place }

-- one more than the last number of a list whose numbers rise from n on, n where it is empty
abbrev pub floor_from : ℕ → List Slip → ℕ
floor_from n [] = n
floor_from n (slip ∷ slips) = floor_from (slip.number + 1) slips

-- one more than the last number, 0 before any
abbrev pub floor_of : List Slip → ℕ
floor_of = floor_from 0

-- the numbers rise, from n on
abbrev pub RisesFrom : ℕ → List Slip → Type 0
RisesFrom n [] = ⊤
RisesFrom n (slip ∷ slips) = (n ≤ slip.number) × RisesFrom (slip.number + 1) slips

-- each slip of the first list stands in the second at least as often: however slips are weighed,
-- the first weighs no more
abbrev pub AreAmong : List Slip → List Slip → Type 0
AreAmong some all = (weight : Slip → ℕ) → sum_by weight some ≤ sum_by weight all

-- no number stands twice in the list
abbrev pub NoneTwice : List Slip → Type 0
NoneTwice slips = (number : ℕ) → count_by (λ slip. slip.number == number) slips ≤ 1
