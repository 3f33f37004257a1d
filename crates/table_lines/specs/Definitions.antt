-- The variables of a table as they are kept, and the set that a member of a definition stands for.
use Rattle.std.specs.Prelude.{List, ℕ, Option, Some, None, Result, Ok, if◌then◌else◌}
use Rattle.std.specs.Map.{lookup}
use Rattle.std.specs.Str.{bytes_eq}
use Rattle.rule_file.specs.declared.fault.RuleFault.{RuleFault}
use Rattle.basics.specs.Results.{◌>>=◌}
use Rattle.table_lines.specs.declared.variables.Variables as kept
use Rattle.table_lines.specs.Below.{all_below}
use Rattle.table_lines.specs.Variables.{Variables, states_or_fault}

-- the variables that are kept by their names
abbrev pub variables_of : kept.Variables → Variables
variables_of variables =
    record {
      defined = variables.defined;
      named = λ name. lookup (λ key. bytes_eq name key.now) variables.by_name.entries;
    }

-- some states, if they are below the count of states
abbrev pub unless_too_high : ℕ → List ℕ → Option (List ℕ)
unless_too_high n states = if all_below n states then Some states else None

-- the set that a member stands for, unless a state of it is too high
abbrev pub member_set : ℕ → Variables → ℕ → List ℕ → Result (Option (List ℕ)) RuleFault
member_set n variables number member =
    states_or_fault variables number member >>= λ states. Ok (unless_too_high n states)
