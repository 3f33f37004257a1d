-- The forms in which the entries of a tree are kept.
use Rattle.std.specs.Prelude.{◌≡◌, ℕ, Bool, nat_lt, true, false, List, map}
use Rattle.std.specs.List.{list_all}
use Rattle.std.specs.Borrow.{Bor}
use Rattle.decision_tree.specs.declared.entries.Form.{Form}
use Rattle.decision_tree.specs.declared.entries.Form.TheVariants.{Narrow, Wide}

-- an entry below this fits in two bytes
abbrev pub narrow_range : ℕ
narrow_range = 65536

-- whether all entries fit in two bytes
abbrev pub are_narrow : List ℕ → Bool
are_narrow = list_all (λ n. nat_lt n narrow_range)

abbrev pub numbers_in : Form → List ℕ
numbers_in (Narrow numbers) = numbers.items
numbers_in (Wide entries) = entries.items

-- entries take two bytes each where all fit in them, and else three
abbrev pub IsKept : Form → Type 0
IsKept (Narrow numbers) = are_narrow numbers.items ≡ true
IsKept (Wide entries) = are_narrow entries.items ≡ false

-- the states behind references
abbrev pub states_at : List (Bor ℕ) → List ℕ
states_at = map (λ state. state.now)
