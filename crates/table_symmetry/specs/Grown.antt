-- Lists of expanded transitions that grow up to the limit.
use Rattle.std.specs.Prelude.{◌≡◌, ◌⊎◌, ℕ, ◌+◌, ◌<◌, ◌≤◌, List, [], ◌∷◌, ◌++◌, Bool, length, map, Vec, Result, Ok, Err, if◌then◌else◌}
use Rattle.std.specs.List.{flat_map, list_any}
use Rattle.rule_file.specs.declared.fault.RuleFault.{RuleFault}
use Rattle.rule_file.specs.declared.fault.RuleFault.TheVariants.{NoMemory, TooManyTransitions}
use Rattle.table_symmetry.specs.declared.expansion.Expanded.{Expanded}
use Rattle.table_lines.specs.declared.symmetry.Symmetry.{Symmetry}
use Rattle.table_lines.specs.declared.transition.Transition.{Transition}
use Rattle.table_symmetry.specs.Expanded.{expanded_of, transition_limit}

-- why a list doesn't grow by so many: memory ran out, or they are too many
abbrev pub IsTooLong : RuleFault → ℕ → Type 0
IsTooLong fault count =
    (fault ≡ NoMemory) ⊎ ((fault ≡ TooManyTransitions) × (transition_limit < count))

-- these are the expanded transitions of some transitions, and not too many
abbrev pub ExpandTo : Symmetry → List Transition → List Expanded → Type 0
ExpandTo symmetry transitions rows =
    (rows ≡ flat_map (expanded_of symmetry) transitions) × (length rows ≤ transition_limit)

-- a list grew by some more
abbrev pub GrowsRows : {U : Type 0} → Result U RuleFault → List Expanded → List Expanded → List Expanded
    → Type 0
GrowsRows (Ok u) old new more = (new ≡ old ++ more) × (length new ≤ transition_limit)
GrowsRows (Err fault) old new more = IsTooLong fault (length old + length more)

-- an expanded transition of these sets for the cell and its neighbours
abbrev pub row_of : List (List ℕ) → ℕ → List (List ℕ) → Expanded
row_of centre given neighbours = record { inputs = centre ++ neighbours; result = given }

-- the lists that stand in these
abbrev pub lists_in : {X A : Type 0} → List (Vec X A) → List (List X)
lists_in vecs = map (λ v. v.items) vecs

-- a list with one more element, unless it has it
abbrev pub with_one : {X : Type 0} → (X → X → Bool) → List X → X → List X
with_one same xs x = if list_any (λ y. same y x) xs then xs else xs ++ x ∷ []

-- the same with each of some more
abbrev pub with_all : {X : Type 0} → (X → X → Bool) → List X → List X → List X
with_all same xs [] = xs
with_all same xs (y ∷ ys) = with_all same (with_one same xs y) ys
