-- What holds of each expanded transition: it has the inputs of its transition, and its result is a state.
use Rattle.table_symmetry.proofs.Names.{All, AllPass-from_list_all, Bool, Expanded, List, Symmetry, Table, Transition, Variable, [], admitted, and_parts, ap, arith, arrangements, assigned, assignments, bound_in, distinct, drop, eqb-true}
use Rattle.table_symmetry.proofs.Names.{expanded, expanded_of, expanded_one, flat_map, given, gives_states, is_quiescent, is_sound, length, length-append, length-drop, length-map, length-take, list_all, list_all-from_AllPass, nat_lt}
use Rattle.table_symmetry.proofs.Names.{nat_tests, not, refl, row_of, rules, same_sets, sets_of, slice_index_or, take, tests, true, valued, ℕ, ◌&&◌, ◌<◌, ◌==◌, ◌∷◌, ◌≡◌}
use Rattle.table_symmetry.proofs.Arrangements.{arrangements-length, list_all-filter, list_all-flat_map, list_all-made}

-- what holds of each, by what holds of each transition and of it under each assignment
each_row : (p q : Transition → Bool) (r : Expanded → Bool) (symmetry : Symmetry) (ts : List Transition) → ((t : Transition) → p t ≡ true → list_all q (assignments t) ≡ true)
    → ((t : Transition) → q t ≡ true → list_all r (expanded_one symmetry t) ≡ true) → list_all p ts ≡ true → All (λ row. r row ≡ true) (flat_map (expanded_of symmetry) ts)
each_row p q r symmetry ts assigns expands h =
    AllPass-from_list_all r (flat_map (expanded_of symmetry) ts) (list_all-flat_map p r (expanded_of symmetry) ts
    (λ t k. list_all-flat_map q r (expanded_one symmetry) (assignments t) expands (assigns t k)) h)

distinct-all : {X : Type 0} (E : X → X → Bool) (p : X → Bool) (xs : List X) → list_all p xs ≡ true → list_all p (distinct E xs) ≡ true
distinct-all E p [] h = refl
distinct-all E p (x ∷ xs) h = grind (arith, list_all-filter p (λ y. not (E x y)) (distinct E xs), distinct-all E p xs)

one-length : (n : ℕ) (symmetry : Symmetry) (t : Transition) → (length t.inputs == n) ≡ true → list_all (λ row. length row.inputs == n) (expanded_one symmetry t) ≡ true
one-length n symmetry t h =
    let sets = sets_of t in
    let lists = arrangements symmetry (drop 1 sets) in
    let as_long = λ (others : List (List ℕ)). length others == length (drop 1 sets) in
    list_all-made (λ (row : Expanded). length row.inputs == n) (row_of (take 1 sets) (given t.result)) (distinct same_sets lists) (λ k d l.
    let long = AllPass-from_list_all as_long (distinct same_sets lists) (distinct-all same_sets as_long lists (arrangements-length symmetry (drop 1 sets))) k d l in
    grind (arith, nat_tests, length-append {A = List ℕ}, length-take 1 sets, length-drop 1 sets, length-map t.inputs admitted, long, h))

assigned-length : (n : ℕ) (vs : List Variable) (t : Transition) → (length t.inputs == n) ≡ true → list_all (λ (u : Transition). length u.inputs == n) (assigned vs t) ≡ true
assigned-length n [] t h = ap (λ b. b && true) h
assigned-length n (v ∷ vs) t h =
    list_all-flat_map (λ (s : ℕ). true) (λ (u : Transition). length u.inputs == n) (λ state. assigned vs (valued v state t)) v.states
    (λ state e. assigned-length n vs (valued v state t) (rw length-map h)) (list_all-from_AllPass (λ (s : ℕ). true) v.states (λ k d l. refl))

-- the expanded transitions of transitions of n inputs have n inputs
pub expanded-length : (n : ℕ) (symmetry : Symmetry) (ts : List Transition) → list_all (λ (t : Transition). length t.inputs == n) ts ≡ true → All (λ (row : Expanded). length row.inputs ≡ n) (flat_map (expanded_of symmetry) ts)
expanded-length n symmetry ts h = λ k d l. eqb-true _ n (each_row (λ t. length t.inputs == n) (λ t. length t.inputs == n) (λ row. length row.inputs == n) symmetry ts
    (λ t. assigned-length n (bound_in t) t) (one-length n symmetry) h k d l)

-- the results of a sound table's expanded transitions are states
pub expanded-below : (table : Table) → is_sound table ≡ true → All (λ (row : Expanded). row.result < table.states) (expanded table)
expanded-below table sound =
    let n = table.states in
    let gives = (and_parts (is_quiescent table) (list_all (gives_states n) table.transitions) sound).1 in
    let below = each_row (gives_states n) (λ u. nat_lt (given u.result) n) (λ row. nat_lt row.result n) table.symmetry table.transitions (λ t h. h)
    (λ u h. list_all-made (λ (row : Expanded). nat_lt row.result n) (row_of (take 1 (sets_of u)) (given u.result)) (distinct same_sets (arrangements table.symmetry (drop 1 (sets_of u)))) (λ k d l. h)) gives in
    λ k d l. let low : nat_lt (slice_index_or (expanded table) k d).result n ≡ true = below k d l in search (rules, tests)
