-- The variables of a table, and the lines that define them.
use Rattle.std.specs.Prelude.{ℕ, ◌==◌, ◌&&◌, Bool, false, not, nat_lt, if◌then◌else◌, List, [], ◌∷◌, take, drop, Option, ◌+◌, ◌-◌, ◌||◌, nat_eq, nat_le, length, codes, position, Some, None, Result, Ok, Err, is_none, option_and_then}
use Rattle.std.specs.List.{list_any, list_all, starts_with, ends_with}
use Rattle.std.specs.Option.{option_map, option_map_or, ok_or}
use Rattle.table_lines.specs.declared.transition.Variable.{Variable}
use Rattle.table_lines.specs.States.{has, rising}
use Rattle.std.specs.Str.{bytes_eq}
use Rattle.text_lines.specs.Blanks.{is_blank, trim}
use Rattle.text_lines.specs.Numbers.{number_of}
use Rattle.rule_file.specs.declared.fault.RuleFault.{RuleFault}
use Rattle.rule_file.specs.declared.fault.RuleFault.TheVariants.{BadVariable, StateTooHigh}
use Rattle.basics.specs.Results.{◌>>=◌}
use Rattle.rule_file.specs.RuleFile.{NumberedLine, after}
use Rattle.table_lines.specs.declared.descriptors.Head.{Head}
use Rattle.table_lines.specs.Fields.{parts}

-- a line that begins with var and a blank defines a variable
abbrev pub defines_variable : List ℕ → Bool
defines_variable line = option_map_or starts_blank (after (codes "var") line) false
  where
    starts_blank : List ℕ → Bool
    starts_blank [] = false
    starts_blank (b ∷ bs) = is_blank b

-- the variables of a table: how many definitions there were, and the latest variable of each name
pub record Variables : Type 0 where
  pub defined : ℕ
  pub named : List ℕ → Option Variable

-- no variables yet
abbrev pub no_variables : Variables
no_variables = record { defined = 0; named = λ name. None }

-- a byte that may stand in a variable's name: printable, and none of the signs , { } = # :
abbrev pub is_variable_byte : ℕ → Bool
is_variable_byte b =
    nat_le 33 b && nat_le b 126
    && not (b == 44 || (b == 123 || (b == 125 || (b == 61 || (b == 35 || b == 58)))))

-- one such byte or more, not all of them digits
abbrev pub is_variable_name : List ℕ → Bool
is_variable_name name =
    not (length name == 0) && list_all is_variable_byte name && is_none (number_of name)

-- what stands between a brace at either end, or the text itself, if it has a brace at neither end
abbrev pub unbraced : List ℕ → Option (List ℕ)
unbraced text =
    if opens text && closes text then Some (drop 1 (take (length text - 1) text))
    else (if opens text || closes text then None else Some text)
  where
    opens : List ℕ → Bool
    opens text = starts_with nat_eq text (123 ∷ [])

    closes : List ℕ → Bool
    closes text = ends_with nat_eq text (125 ∷ [])

-- the name that a line defines, and the members of its set
abbrev pub definition_in : List ℕ → Option (List ℕ × List (List ℕ))
definition_in line =
    option_and_then
    (λ sign. option_and_then
    (λ set. if is_variable_name (trim (drop 3 (take sign line)))
    then Some (trim (drop 3 (take sign line)), parts set) else None)
    (unbraced (trim (drop (sign + 1) line))))
    (position (λ b. b == 61) line)

-- the states that a member stands for: a number for itself, and a name for those of an earlier
-- variable
abbrev pub member_states : Variables → List ℕ → Option (List ℕ)
member_states variables member =
    option_map_or (λ n. Some (n ∷ [])) (number_of member)
    (option_map (λ v. v.states) (variables.named member))

-- whether all states of some sets are below the count of states
abbrev pub are_below : ℕ → List (List ℕ) → Bool
are_below states sets = list_all (λ set. list_all (λ s. nat_lt s states) set) sets

-- what f reads of each, or the first fault
abbrev pub each : {A B : Type 0} → (A → Result B RuleFault) → List A → Result (List B) RuleFault
each f [] = Ok []
each f (x ∷ xs) = do
  y ← f x
  ys ← each f xs
  Ok (y ∷ ys)

-- the states of a member, or its fault
abbrev pub states_or_fault : Variables → ℕ → List ℕ → Result (List ℕ) RuleFault
states_or_fault variables number member =
    ok_or (member_states variables member) (BadVariable number)

-- all states of some sets
abbrev pub union : List (List ℕ) → List ℕ
union sets = rising (λ s. list_any (λ set. has set s) sets)

-- the set of these members
abbrev pub set_of : ℕ → Variables → ℕ → List (List ℕ) → Result (List ℕ) RuleFault
set_of n variables number members = do
  sets ← each (states_or_fault variables number) members
  if are_below n sets then Ok (union sets) else Err (StateTooHigh number)

-- the variables after one more definition, which has the next number
abbrev pub with_definition : Variables → List ℕ → List ℕ → Variables
with_definition variables name states = record {
  defined = variables.defined + 1;
  named =
      λ other. if bytes_eq name other
      then Some (record { number = variables.defined; states = states })
      else variables.named other;
}

-- the variables after a line that is to define one
abbrev pub variables_after : Head → Variables → NumberedLine → Result Variables RuleFault
variables_after head variables line = do
  definition ← ok_or (definition_in line.text) (BadVariable line.number)
  set ← set_of head.states variables line.number definition.1
  Ok (with_definition variables definition.0 set)
