-- Readings of a rule file, where a call may run out of memory.
use Rattle.std.specs.Prelude.{Result}
use Rattle.basics.specs.Results as readings
use Rattle.rule_file.specs.declared.fault.RuleFault.{RuleFault}
use Rattle.rule_file.specs.declared.fault.RuleFault.TheVariants.{NoMemory}

-- a call gave what the reading gives, unless memory ran out
abbrev pub GivesBy : {X A : Type 0} → (X → A) → Result X RuleFault → Result A RuleFault → Type 0
GivesBy view result read = readings.GivesBy NoMemory view result read

-- the same of a value that is seen as it is
abbrev pub Gives : {A : Type 0} → Result A RuleFault → Result A RuleFault → Type 0
Gives result read = readings.Gives NoMemory result read
