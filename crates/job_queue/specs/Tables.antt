-- The table that the jobs of a queue are of.
use Rattle.std.specs.Prelude.{[], Option, Some, None}
use Rattle.revision_jobs.specs.declared.answer.Job.{Job}
use Rattle.revision_jobs.specs.declared.entries.Entries.{Entries}
use Rattle.revision_jobs.specs.Entries.{IsOf}

-- a table that stands for none
abbrev pub no_table : Entries
no_table = record { slots = record { tag = []; buckets = [] } }

-- the table that an end knows
abbrev pub table_in : Option Entries → Entries
table_in None = no_table
table_in (Some table) = table

-- the job is of the table that is known; of none while no table is
abbrev pub IsOfKnown : Option Entries → Job → Type 0
IsOfKnown None job = ⊥
IsOfKnown (Some table) job = IsOf table job.place
