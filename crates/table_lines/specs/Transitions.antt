-- The transitions that lines say.
use Rattle.std.specs.Prelude.{ℕ, ◌==◌, Bool, false, not, nat_lt, if◌then◌else◌, List, [], ◌∷◌, take, ◌+◌, ◌-◌, length, slice_index_or, Result, Ok, Err, is_some}
use Rattle.std.specs.List.{list_any}
use Rattle.std.specs.Option.{option_map, option_map_or, ok_or}
use Rattle.table_lines.specs.declared.neighborhood.Neighborhood.{Neighborhood}
use Rattle.table_lines.specs.declared.transition.Variable.{Variable}
use Rattle.table_lines.specs.declared.transition.Entry.{Entry}
use Rattle.table_lines.specs.declared.transition.Entry.TheVariants.{State, OneOf}
use Rattle.table_lines.specs.declared.transition.Transition.{Transition}
use Rattle.text_lines.specs.Numbers.{number_of}
use Rattle.rule_file.specs.declared.fault.RuleFault.{RuleFault}
use Rattle.rule_file.specs.declared.fault.RuleFault.TheVariants.{BadTransition, StateTooHigh, FreeResult}
use Rattle.basics.specs.Results.{◌>>=◌}
use Rattle.rule_file.specs.RuleFile.{NumberedLine}
use Rattle.table_lines.specs.declared.descriptors.Head.{Head}
use Rattle.table_lines.specs.Neighborhood.{places_of}
use Rattle.table_lines.specs.Descriptors.{descriptor_of}
use Rattle.table_lines.specs.Fields.{fields}
use Rattle.table_lines.specs.Variables.{defines_variable, Variables, each, variables_after}

-- whether an entry is this variable
abbrev pub is_variable : Variable → Entry → Bool
is_variable v (State s) = false
is_variable v (OneOf w) = v.number == w.number

-- the states that an entry admits
abbrev pub admitted : Entry → List ℕ
admitted (State a) = a ∷ []
admitted (OneOf v) = v.states

-- a field is a state below the count of states, or a variable
abbrev pub entry_of : ℕ → Variables → ℕ → List ℕ → Result Entry RuleFault
entry_of states variables number field =
    option_map_or (λ n. if nat_lt n states then Ok (State n) else Err (StateTooHigh number))
    (number_of field) (ok_or (option_map OneOf (variables.named field)) (BadTransition number))

-- the transition of some entries, whose last is the result
abbrev pub transition_from : List Entry → Transition
transition_from entries =
    record {
      inputs = take (length entries - 1) entries;
      result = slice_index_or entries (length entries - 1) (State 0);
    }

-- a free variable, which stands in no input
abbrev pub is_free : List Entry → Entry → Bool
is_free inputs (State a) = false
is_free inputs (OneOf v) = not (list_any (is_variable v) inputs)

-- a transition, unless its result is free
abbrev pub unless_free : ℕ → Transition → Result Transition RuleFault
unless_free number t = if is_free t.inputs t.result then Err (FreeResult number) else Ok t

-- the transition that a line says: an entry for the cell, one for each neighbour, and the result
abbrev pub transition_of : Head → Variables → NumberedLine → Result Transition RuleFault
transition_of head variables line =
    if length (fields head.states line.text) == length (places_of head.neighborhood) + 2 then
    (each (entry_of head.states variables line.number) (fields head.states line.text) >>= λ entries.
    unless_free line.number (transition_from entries))
    else Err (BadTransition line.number)

-- whether a transition has an input for the cell and each neighbour
abbrev pub is_full : Neighborhood → Transition → Bool
is_full neighborhood t = length t.inputs == length (places_of neighborhood) + 1

-- the transitions that the lines after the head say
abbrev pub transitions_of : Head → Variables → List NumberedLine
    → Result (List Transition) RuleFault
transitions_of head variables [] = Ok []
transitions_of head variables (line ∷ lines) =
    if is_some (descriptor_of line.text) then Err (BadTransition line.number) else
    (if defines_variable line.text
    then (variables_after head variables line >>= λ more. transitions_of head more lines) else
    (do
      t ← transition_of head variables line
      ts ← transitions_of head variables lines
      Ok (t ∷ ts)))
