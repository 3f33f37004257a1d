-- States that are below the count of states.
use Rattle.std.specs.Prelude.{◌≡◌, ℕ, ◌&&◌, Bool, true, nat_lt, List, Some}
use Rattle.std.specs.List.{list_all}
use Rattle.table_lines.specs.declared.transition.Entry.{Entry}
use Rattle.table_lines.specs.declared.transition.Transition.{Transition}
use Rattle.table_lines.specs.declared.transition.Variable.{Variable}
use Rattle.table_lines.specs.Transitions.{admitted}
use Rattle.table_lines.specs.Variables.{Variables}

-- all of these states are below n
abbrev pub all_below : ℕ → List ℕ → Bool
all_below n states = list_all (λ s. nat_lt s n) states

-- all states that an entry admits are below n
abbrev pub entry_below : ℕ → Entry → Bool
entry_below n e = all_below n (admitted e)

-- all states that the entries of a transition admit are below n
abbrev pub admits_below : ℕ → Transition → Bool
admits_below n t = list_all (entry_below n) t.inputs && entry_below n t.result

-- all states of these variables are below n
abbrev pub VariablesBelow : ℕ → Variables → Type 0
VariablesBelow n variables =
    (name : List ℕ) (v : Variable) → variables.named name ≡ Some v → all_below n v.states ≡ true
