-- The table that lines mean is sound.
use Rattle.table_symmetry.proofs.Names.{Bool, Entry, Err, IsRead, List, NotQuiescent, Ok, Table, TooManyTransitions, Transition, Variable, [], and_from, and_parts, arith, assigned, bound_variables, expanded, false, given, gives_states}
use Rattle.table_symmetry.proofs.Names.{if◌then◌else◌, is_quiescent, is_sound, length, lines_of, list_all, list_all-append, nat_lt, nat_tests, not, refl, subst, table_of, then-ok, transition_limit, true, valued, within_limits, ℕ, ◌&&◌}
use Rattle.table_symmetry.proofs.Names.{◌++◌, ◌<◌, ◌==◌, ◌∷◌, ◌≡◌}
use Rattle.rule_file.specs.RuleFile.{NumberedLine}
use Rattle.table_lines.specs.declared.transition.Entry.TheVariants.{State, OneOf}
use Rattle.table_lines.specs.Below.{all_below, entry_below, admits_below}
use Rattle.table_lines.proofs.Shared.SaidTables.{lines-read}
use Rattle.table_symmetry.proofs.Arrangements.{list_all-filter, list_all-flat_map}

-- the states of bound variables are below n, where those of all entries are
bound-below : (n : ℕ) (entries : List Entry) → list_all (entry_below n) entries ≡ true → list_all (λ v. all_below n v.states) (bound_variables entries) ≡ true
bound-below n [] h = refl
bound-below n (State s ∷ entries) h = grind (arith, bound-below n entries)
bound-below n (OneOf v ∷ entries) h =
    let others = list_all-filter (λ w. all_below n w.states) (λ w. not (v.number == w.number)) (bound_variables entries) in
    grind (arith, others, bound-below n entries)

assigned-below : (n : ℕ) (vs : List Variable) (t : Transition) → 0 < n → list_all (λ v. all_below n v.states) vs ≡ true → entry_below n t.result ≡ true
    → list_all (λ u. nat_lt (given u.result) n) (assigned vs t) ≡ true
assigned-below n [] t some h e = grind (arith, nat_tests)
assigned-below n (v ∷ vs) t some h e =
    let parts = and_parts (all_below n v.states) (list_all (λ w. all_below n w.states) vs) h in
    list_all-flat_map (λ s. nat_lt s n) (λ u. nat_lt (given u.result) n) (λ state. assigned vs (valued v state t)) v.states
    (λ state low. assigned-below n vs (valued v state t) some parts.1 (grind (arith, low, e))) parts.0

gives_states-below : (n : ℕ) (t : Transition) → 0 < n → admits_below n t ≡ true → gives_states n t ≡ true
gives_states-below n t some h =
    let parts = and_parts (list_all (entry_below n) t.inputs) (entry_below n t.result) h in
    let all : list_all (entry_below n) (t.inputs ++ t.result ∷ []) ≡ true = rw (list_all-append, parts.0, parts.1) in
    assigned-below n (bound_variables (t.inputs ++ t.result ∷ [])) t some (bound-below n (t.inputs ++ t.result ∷ []) all) parts.1

-- whatever transitions of states below n give is below n
pub all_give_states : (n : ℕ) (ts : List Transition) → 0 < n → list_all (admits_below n) ts ≡ true → list_all (gives_states n) ts ≡ true
all_give_states n [] some h = refl
all_give_states n (t ∷ ts) some h =
    let parts = and_parts (admits_below n t) (list_all (admits_below n) ts) h in
    λ i. gives_states-below n t some parts.0 i && all_give_states n ts some parts.1 i

-- a table within the limits is quiescent
pub passed : (many quiet : Bool) (t table : Table) → (if many then Err TooManyTransitions else (if quiet then Ok t else Err NotQuiescent)) ≡ Ok table → (quiet ≡ true) × (t ≡ table)
passed true quiet t table h = absurd cc
passed false true t table h = (refl, cc)
passed false false t table h = absurd cc

pub table_of-sound : (lines : List NumberedLine) (table : Table) → table_of lines ≡ Ok table → is_sound table ≡ true
table_of-sound lines table h =
    let said = then-ok (lines_of lines) within_limits table h in
    let t : Table = said.0 in
    let read : IsRead t = lines-read lines t said.1 in
    let within = passed (nat_lt transition_limit (length (expanded t))) (is_quiescent t) t table said.2 in
    let some : 0 < t.states = omega (arith, read.at_least) in
    subst (λ u. is_sound u ≡ true) within.1
    (and_from (is_quiescent t) (list_all (gives_states t.states) t.transitions) within.0 (all_give_states t.states t.transitions some read.below))

pub ruleset sound_tables = (table_of-sound)
