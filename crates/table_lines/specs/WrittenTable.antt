-- The lines that write a table.
use Rattle.std.specs.Prelude.{◌≡◌, ℕ, ◌+◌, ◌<◌, ◌≤◌, ◌^◌, true, false, List, [], ◌∷◌, ◌++◌, length, map, slice_index_or, codes, decimal, Some}
use Rattle.std.specs.List.{AllByRecursion, join_with_byte}
use Rattle.text_lines.specs.LineEnds.{text_of_lines}
use Rattle.rule_file.specs.RuleFile.{NumberedLine, numbered_from}
use Rattle.rule_file.specs.States.{least_states, most_states}
use Rattle.table_lines.specs.declared.neighborhood.Neighborhood.{Neighborhood}
use Rattle.table_lines.specs.declared.neighborhood.Neighborhood.TheVariants.{VonNeumann, Moore, Hexagonal, OneDimensional}
use Rattle.table_lines.specs.declared.transition.Entry.{Entry}
use Rattle.table_lines.specs.declared.transition.Entry.TheVariants.{State, OneOf}
use Rattle.table_lines.specs.declared.transition.Transition.{Transition}
use Rattle.table_lines.specs.Below.{all_below}
use Rattle.table_lines.specs.States.{has, rising}
use Rattle.table_lines.specs.Symmetry.{name_of_symmetry, symmetry_named}
use Rattle.table_lines.specs.Table.{Table}
use Rattle.table_lines.specs.Transitions.{is_free, is_full}

-- the name of a neighbourhood
abbrev pub name_of_neighborhood : Neighborhood → List ℕ
name_of_neighborhood VonNeumann = codes "vonNeumann"
name_of_neighborhood Moore = codes "Moore"
name_of_neighborhood Hexagonal = codes "hexagonal"
name_of_neighborhood OneDimensional = codes "oneDimensional"

-- the name of the variable of this number: v0, v1 and so on
abbrev pub variable_name : ℕ → List ℕ
variable_name number = codes "v" ++ decimal number

-- an equals sign, and states in braces with a comma between each two
abbrev pub set_text : List ℕ → List ℕ
set_text set = codes "={" ++ join_with_byte 44 (map decimal set) ++ codes "}"

-- the line that defines the variable of this number as one of these states
abbrev pub definition_line : ℕ → List ℕ → List ℕ
definition_line number set = codes "var " ++ variable_name number ++ set_text set

-- a definition for each of some sets, the first of this number
abbrev pub definition_lines : ℕ → List (List ℕ) → List (List ℕ)
definition_lines number [] = []
definition_lines number (set ∷ sets) =
    definition_line number set ∷ definition_lines (number + 1) sets

-- an entry: a state in digits, or the name of a variable
abbrev pub entry_text : Entry → List ℕ
entry_text (State s) = decimal s
entry_text (OneOf v) = variable_name v.number

-- the line of a transition: its inputs and its result, with a comma between each two
abbrev pub transition_line : Transition → List ℕ
transition_line t = join_with_byte 44 (map entry_text (t.inputs ++ t.result ∷ []))

-- the lines of a table whose variables are these sets: three descriptors, one for each set, and one
-- for each transition
abbrev pub written_lines : List (List ℕ) → Table → List (List ℕ)
written_lines sets table =
    (codes "n_states:" ++ decimal table.states)
    ∷ (codes "neighborhood:" ++ name_of_neighborhood table.neighborhood)
    ∷ (codes "symmetries:" ++ name_of_symmetry table.symmetry)
    ∷ definition_lines 0 sets ++ map transition_line table.transitions

-- the same with their numbers, of which the first is this
abbrev pub written_table : ℕ → List (List ℕ) → Table → List NumberedLine
written_table number sets table = numbered_from number (written_lines sets table)

-- a set of states below n: one at least, each listed once, rising
pub record IsSet (n : ℕ) (set : List ℕ) : Type 0 where
  pub some : 0 < length set
  pub rising : rising (has set) ≡ set
  pub below : all_below n set ≡ true

-- an entry is a state below n, or a variable that is the set of its number
abbrev pub IsEntryOf : ℕ → List (List ℕ) → Entry → Type 0
IsEntryOf n sets (State s) = s < n
IsEntryOf n sets (OneOf v) = (v.number < length sets) × (v.states ≡ slice_index_or sets v.number [])

-- a transition of such entries, one for the cell and each neighbour, whose result is a state or
-- stands among them
pub record IsTransitionOf (n : ℕ) (neighborhood : Neighborhood) (sets : List (List ℕ))
    (t : Transition)
    : Type 0 where
  pub inputs : AllByRecursion (IsEntryOf n sets) t.inputs
  pub result : IsEntryOf n sets t.result
  pub full : is_full neighborhood t ≡ true
  pub bound : is_free t.inputs t.result ≡ false

-- a table that lines may say, whose variables are these sets in order
pub record IsTableOf (sets : List (List ℕ)) (table : Table) : Type 0 where
  pub at_least : least_states ≤ table.states
  pub at_most : table.states ≤ most_states
  pub symmetry : symmetry_named table.neighborhood (name_of_symmetry table.symmetry)
      ≡ Some table.symmetry
  pub few : length sets ≤ 2 ^ 64
  pub defined : AllByRecursion (IsSet table.states) sets
  pub transitions : AllByRecursion (IsTransitionOf table.states table.neighborhood sets)
      table.transitions

-- the text of a rule file of this name, which has the table's section alone
abbrev pub written_file : List ℕ → List (List ℕ) → Table → List ℕ
written_file name sets table =
    text_of_lines ((codes "@RULE " ++ name) ∷ codes "@TABLE" ∷ written_lines sets table)
