-- What an answer says.
use Rattle.std.specs.Prelude.{◌≡◌, ℕ, IfOk, Result, Ok, Err}
use Rattle.std.specs.Arc.{arc_value}
use Rattle.step_engine.specs.declared.evolved.EvolveFault.{EvolveFault}
use Rattle.revision_jobs.specs.declared.answer.Job.{Job}
use Rattle.revision_jobs.specs.declared.answer.Outcome.{Outcome}
use Rattle.revision_jobs.specs.declared.answer.Outcome.TheVariants.{Plane, Text, Gave}
use Rattle.revision_jobs.specs.declared.answer.Parts.{Parts}
use Rattle.revision_jobs.specs.Entries.{entry_of}
use Rattle.revision_jobs.specs.Room.{HasNoRoom}
use Rattle.revision_jobs.specs.Value.{Value, pattern, text, value}

-- the value in an outcome, or why there is none
abbrev pub outcome_of : Outcome → Result Value EvolveFault
outcome_of (Plane plane) = Ok (pattern (arc_value plane))
outcome_of (Text bytes) = Ok (text (arc_value bytes))
outcome_of (Gave fault) = Err fault

-- a job, how many squares a step could keep when it was worked, and the value that was computed for
-- it or why there is none
pub record JobResult : Type 0 where
  pub job : Job
  pub limit : ℕ
  pub outcome : Result Value EvolveFault

-- what the parts of an answer say
abbrev pub result_in : Parts → JobResult
result_in parts = record {
  job = parts.job;
  limit = parts.limit;
  outcome = outcome_of parts.outcome;
}

-- a value in the answer to a job is that of the job's entry, and that there was no room is said
-- only where the entry has none at the limit that the job was worked with
pub record IsRightAnswer (job : Job) (limit : ℕ) (outcome : Result Value EvolveFault) : Type 0 where
  pub value_is : IfOk outcome (λ found. found ≡ value (entry_of job.place))
  pub room : outcome ≡ Err EvolveFault.NoRoom → HasNoRoom limit (entry_of job.place)
