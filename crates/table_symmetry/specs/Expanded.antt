-- The expanded transitions of a table, in which no variables and no symmetry are left.
use Rattle.std.specs.Prelude.{ℕ, ◌&&◌, Bool, true, false, not, List, [], ◌∷◌, ◌++◌, map, take, drop, find, Option}
use Rattle.std.specs.List.{filter, flat_map}
use Rattle.std.specs.Cmp.Lexicographic.{pointwise}
use Rattle.std.specs.Option.{option_map}
use Rattle.table_symmetry.specs.declared.expansion.Expanded.{Expanded}
use Rattle.table_lines.specs.declared.symmetry.Symmetry.{Symmetry}
use Rattle.table_lines.specs.declared.transition.Transition.{Transition}
use Rattle.table_symmetry.specs.Circle.{arrangements}
use Rattle.table_symmetry.specs.NextState.{admitted, assignments, given}
use Rattle.table_symmetry.specs.States.{has, same_set}
use Rattle.table_symmetry.specs.Table.{Table}

-- whether two lists of sets are equal
abbrev pub same_sets : List (List ℕ) → List (List ℕ) → Bool
same_sets = pointwise same_set

-- each element once, where it stands first
abbrev pub distinct : {X : Type 0} → (X → X → Bool) → List X → List X
distinct same [] = []
distinct same (x ∷ xs) = x ∷ filter (λ y. not (same x y)) (distinct same xs)

-- the states that each entry admits
abbrev pub sets_of : Transition → List (List ℕ)
sets_of t = map admitted t.inputs

-- the expanded transitions of a transition without bound variables: one for each list of sets that
-- a map of the symmetry gives
abbrev pub expanded_one : Symmetry → Transition → List Expanded
expanded_one symmetry t =
    map (λ neighbours.
    record { inputs = take 1 (sets_of t) ++ neighbours; result = given t.result })
    (distinct same_sets (arrangements symmetry (drop 1 (sets_of t))))

-- those of any transition: those of each assignment
abbrev pub expanded_of : Symmetry → Transition → List Expanded
expanded_of symmetry t = flat_map (expanded_one symmetry) (assignments t)

-- the expanded transitions of a table, in order
abbrev pub expanded : Table → List Expanded
expanded table = flat_map (expanded_of table.symmetry) table.transitions

-- each set has the state at its place
abbrev pub all_have : List (List ℕ) → List ℕ → Bool
all_have [] [] = true
all_have [] (s ∷ states) = false
all_have (x ∷ sets) [] = false
all_have (x ∷ sets) (s ∷ states) = has x s && all_have sets states

-- the result of the first expanded transition whose sets have these states
abbrev pub first_match : List Expanded → List ℕ → Option ℕ
first_match rows inputs =
    option_map (λ row. row.result) (find (λ row. all_have row.inputs inputs) rows)

-- a table may have so many expanded transitions
abbrev pub transition_limit : ℕ
transition_limit = 1000000
