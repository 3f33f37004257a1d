-- The causes for which settling stops, and their numbers.
use Rattle.std.specs.Prelude.{ℕ}
use Rattle.step_engine.specs.declared.evolved.EvolveFault.{EvolveFault}
use Rattle.step_engine.specs.declared.evolved.EvolveFault.TheVariants as fault
use Rattle.desk_core.specs.declared.cause.Cause.{Cause}
use Rattle.desk_core.specs.declared.cause.Cause.TheVariants.{NoMemory, NoRoom, Stopped, NumbersSpent}
use Rattle.desk_core.specs.declared.issue.IssueFault.{IssueFault}
use Rattle.desk_core.specs.declared.issue.IssueFault.TheVariants as issue

-- the number of the refusal that a cause is
abbrev pub cause_number : Cause → ℕ
cause_number NoMemory = 70
cause_number NoRoom = 71
cause_number Stopped = 72
cause_number NumbersSpent = 73

-- the cause that a job's giving up is
abbrev pub cause_of_answer : EvolveFault → Cause
cause_of_answer fault.NoMemory = NoMemory
cause_of_answer fault.NoRoom = NoRoom
cause_of_answer fault.Stopped = Stopped

-- the cause that a refused issue is
abbrev pub cause_of_issue : IssueFault → Cause
cause_of_issue issue.NoMemory = NoMemory
cause_of_issue issue.NumbersSpent = NumbersSpent
