-- The rule of the queue.
use Rattle.std.specs.Prelude.{◌≡◌, ℕ, ◌+◌, ◌-◌, ◌<◌, Bool, true, false, List, [], ◌∷◌, ◌++◌, length, sum_by, Option, Some, None, ⊤}
use mathlib.Core.Option.{some}
use lib.ListN.{get_elem?}
use Rattle.revision_jobs.specs.declared.answer.Job.{Job}
use Rattle.revision_jobs.specs.declared.entries.Entries.{Entries}
use Rattle.job_queue.specs.declared.rule.Slip.{Slip}
use Rattle.job_queue.specs.declared.rule.EndView.{EndView}
use Rattle.job_queue.specs.Slips.{NoneTwice, RisesFrom, slip_of}
use Rattle.job_queue.specs.Tables.{IsOfKnown, table_in}

-- what an end knows: whether it sends, what it sent, what it took and what came back with takers,
-- the table, for how many takers it stands, and how many are out
abbrev pub end_view :
    Bool → List Slip → List Slip → Option Entries → ℕ → ℕ → EndView
end_view sends sent taken table part out = record {
  sends = sends;
  sent = sent;
  taken = taken;
  table = table;
  part = part;
  out = out;
}

-- the sender of a queue without a table
abbrev pub first_view : EndView
first_view = end_view true [] [] None 0 0

-- one that does nothing any more
abbrev pub spent_view : EndView
spent_view = end_view false [] [] None 0 0

-- the sender when it gets to know the table, and when a taker is made
abbrev pub with_table : Entries → EndView → EndView
with_table table v = record v { taken = []; table = Some table }

abbrev pub lending : EndView → EndView
lending v = record v { out = v.out + 1 }

-- the taker that is made then
abbrev pub lent : EndView → EndView
lent v = end_view false [] [] v.table 1 0

-- the sender when a taker came back
abbrev pub with_back : EndView → EndView → EndView
with_back v w = record v { taken = v.taken ++ w.taken; out = v.out - 1 }

-- the end knows a table
abbrev pub IsTabled : EndView → Type 0
IsTabled v = v.table ≡ Some (table_in v.table)

-- it is the sender, and knows a table
abbrev pub IsLender : EndView → Type 0
IsLender v = (v.sends ≡ true) × IsTabled v

-- it is the sender, and knows a table and a list of rising numbers
abbrev pub IsSending : EndView → Type 0
IsSending v = (v.sends ≡ true) × IsTabled v × RisesFrom 0 v.sent

-- it is a taker, and knows a table
abbrev pub IsTaker : EndView → Type 0
IsTaker v = (v.part ≡ 1) × IsTabled v

-- what the sender knows when it has sent a job
abbrev pub with_sent : EndView → Job → EndView
with_sent v job = record v { sent = v.sent ++ slip_of job ∷ [] }

-- what a taker knows when it has taken a job
abbrev pub with_taken : EndView → Job → EndView
with_taken v job = record v { taken = v.taken ++ slip_of job ∷ [] }

-- the end took a job of its table, which stands behind what it took before, and none of these twice
abbrev pub IsTaking : EndView → Job → EndView → Type 0
IsTaking v job w = (w ≡ with_taken v job) × IsOfKnown v.table job × NoneTwice w.taken

-- each job is of the table that is known
abbrev pub AreOfKnown : Option Entries → List Job → Type 0
AreOfKnown table [] = ⊤
AreOfKnown table (job ∷ jobs) = IsOfKnown table job × AreOfKnown table jobs

-- the end that sends is this one, and knows what was sent, the table, and how many takers are out
pub record KnowsQueue (seat : ℕ) (sent : List Slip) (table : Option Entries) (out port : ℕ)
    (v : EndView) : Type 0 where
  pub port_is : port ≡ seat
  pub sent_is : v.sent ≡ sent
  pub table_is : v.table ≡ table
  pub out_is : v.out ≡ out
  pub alone : v.part ≡ 0

-- the sender knows that, a taker the table, and any other end took nothing
pub record FitsQueue (seat : ℕ) (sent : List Slip) (table : Option Entries) (out port : ℕ)
    (v : EndView) : Type 0 where
  pub sender : v.sends ≡ true → KnowsQueue seat sent table out port v
  pub taker : 0 < v.part → v.table ≡ table
  pub idle : v.sends ≡ false → v.part ≡ 0 → v.taken ≡ []

-- what the jobs of a queue weigh, by their slips
abbrev pub weight_held : (Slip → ℕ) → List Job → ℕ
weight_held weight jobs = sum_by (λ job. weight (slip_of job)) jobs

-- what all ends took weighs, together
abbrev pub weight_taken : (Slip → ℕ) → List EndView → ℕ
weight_taken weight views = sum_by (λ v. sum_by weight v.taken) views

-- for how many takers the ends stand
abbrev pub takers_among : List EndView → ℕ
takers_among views = sum_by (λ (v : EndView). v.part) views

-- the queue holds these jobs, and the ends know this: what was sent is what all ends took and what
-- the queue holds, however slips are weighed, and there are as many takers as are out
pub record IsBalanced (jobs : List Job) (views : List EndView) : Type 0 where
  pub seat : ℕ
  pub sent : List Slip
  pub table : Option Entries
  pub out : ℕ
  pub rises : RisesFrom 0 sent
  pub balance : (weight : Slip → ℕ) →
      sum_by weight sent ≡ weight_taken weight views + weight_held weight jobs
  pub takers : takers_among views ≡ out
  pub fits : (port : ℕ) (v : EndView) →
      get_elem? views port ≡ some v → FitsQueue seat sent table out port v
  pub owned : AreOfKnown table jobs
  pub alone : table ≡ None → length views ≡ 1
