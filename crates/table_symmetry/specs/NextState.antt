-- The next state of a cell under a table, straight from the transition that matches.
use Rattle.std.specs.Prelude.{ℕ, ◌==◌, ◌&&◌, Bool, true, false, not, nat_lt, if◌then◌else◌, List, [], ◌∷◌, ◌++◌, map, take, drop, find, slice_index, unwrap_or, Option}
use Rattle.std.specs.List.{filter, list_any, list_all, flat_map}
use Rattle.std.specs.Option.{option_map}
use Rattle.worlds.specs.Step.{nine_zeros}
pub use Rattle.table_lines.specs.Neighborhood.{places_of}
pub use Rattle.table_lines.specs.Transitions.{admitted, is_variable}
use Rattle.table_lines.specs.declared.neighborhood.Neighborhood.{Neighborhood}
use Rattle.table_lines.specs.declared.transition.Variable.{Variable}
use Rattle.table_lines.specs.declared.transition.Entry.{Entry}
use Rattle.table_lines.specs.declared.transition.Entry.TheVariants.{State, OneOf}
use Rattle.table_lines.specs.declared.transition.Transition.{Transition}
use Rattle.table_symmetry.specs.Circle.{arrangements}
use Rattle.table_symmetry.specs.States.{has}
use Rattle.table_symmetry.specs.Table.{Table}

-- the cell and its neighbours, among the nine states at and around it
abbrev pub inputs_of : Neighborhood → List ℕ → List ℕ
inputs_of neighborhood around = map (λ place. slice_index around place) (0 ∷ places_of neighborhood)

-- the variables without this one
abbrev pub without : Variable → List Variable → List Variable
without v vs = filter (λ w. not (v.number == w.number)) vs

-- the bound variables, which stand more than once among the entries, in order of first appearance
abbrev pub bound_variables : List Entry → List Variable
bound_variables [] = []
bound_variables (State s ∷ entries) = bound_variables entries
bound_variables (OneOf v ∷ entries) =
    if list_any (is_variable v) entries then v ∷ without v (bound_variables entries)
    else bound_variables entries

-- the bound variables of a transition, whose result counts too
abbrev pub bound_in : Transition → List Variable
bound_in t = bound_variables (t.inputs ++ t.result ∷ [])

-- an entry, where the variable has this value
abbrev pub valued_entry : Variable → ℕ → Entry → Entry
valued_entry v state e = if is_variable v e then State state else e

-- a transition, where the variable has this value throughout
abbrev pub valued : Variable → ℕ → Transition → Transition
valued v state t =
    record { inputs = map (valued_entry v state) t.inputs; result = valued_entry v state t.result }

-- a transition under all assignments of these variables, the values of the first rising slowest
abbrev pub assigned : List Variable → Transition → List Transition
assigned [] t = t ∷ []
assigned (v ∷ vs) t = flat_map (λ state. assigned vs (valued v state t)) (v.states)

-- a transition under each assignment of its bound variables, in order
abbrev pub assignments : Transition → List Transition
assignments t = assigned (bound_in t) t

-- each entry admits the state at its place
abbrev pub all_admit : List Entry → List ℕ → Bool
all_admit [] [] = true
all_admit [] (s ∷ states) = false
all_admit (e ∷ entries) [] = false
all_admit (e ∷ entries) (s ∷ states) = has (admitted e) s && all_admit entries states

-- the entries of a transition, its neighbours' as each map of the symmetry puts them
abbrev pub arranged : Table → Transition → List (List Entry)
arranged table t =
    map (λ neighbours. take 1 t.inputs ++ neighbours)
    (arrangements table.symmetry (drop 1 t.inputs))

-- a transition matches a cell and its neighbours, if its entries admit them in some arrangement
abbrev pub matches : Table → List ℕ → Transition → Bool
matches table around t =
    list_any (λ entries. all_admit entries (inputs_of table.neighborhood around)) (arranged table t)

-- the state that an entry gives; a result that is a variable is bound, and so a state under each
-- assignment
abbrev pub given : Entry → ℕ
given (State a) = a
given (OneOf v) = 0

-- the result of a transition under the first assignment with which it matches
abbrev pub result_of : Table → List ℕ → Transition → Option ℕ
result_of table around t =
    option_map (λ u. given u.result) (find (matches table around) (assignments t))

-- the result of the first transition that matches, else the state of the cell
abbrev pub first_result : Table → List ℕ → List Transition → ℕ
first_result table around [] = slice_index around 0
first_result table around (t ∷ ts) =
    unwrap_or (result_of table around t) (first_result table around ts)

-- the next state of a cell, by the nine states at and around it
abbrev pub next : Table → List ℕ → ℕ
next table around = first_result table around table.transitions

-- a cell of state 0 among such cells keeps it
abbrev pub is_quiescent : Table → Bool
is_quiescent table = next table nine_zeros == 0

-- whatever a transition may give is one of n states
abbrev pub gives_states : ℕ → Transition → Bool
gives_states n t = list_all (λ u. nat_lt (given u.result) n) (assignments t)
