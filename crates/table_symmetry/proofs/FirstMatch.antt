-- The first expanded transition that matches gives the next state.
use Rattle.table_symmetry.proofs.Names.{Bool, Entry, Expanded, List, None, Some, Table, Transition, [], admitted, all_admit, all_have, ap, arith, arrangements, assignments, cond, distinct, drop, drop-map, expanded, expanded_of}
use Rattle.table_symmetry.proofs.Names.{expanded_one, find, first_match, first_result, flat_map, given, has, inputs_of, list_any, map, map-append, matches, next, option_map, option_or, refl, same_sets, sets_of, slice_index, sym, take}
use Rattle.table_symmetry.proofs.Names.{take-map, unwrap_or, ℕ, ◌&&◌, ◌++◌, ◌||◌, ◌∙◌, ◌∷◌, ◌≡◌}
use Rattle.table_symmetry.proofs.Arranged.{same_sets_decides}
use Rattle.table_symmetry.proofs.Distinct.{any-distinct}
use Rattle.table_symmetry.proofs.Arrangements.{arrangements-map}

any_both : {A B : Type 0} (p : B → Bool) (f : A → B) (q : A → Bool) → ((x : A) → p (f x) ≡ q x) → (xs : List A) → list_any p (map f xs) ≡ list_any q xs
any_both p f q e [] = refl
any_both p f q e (x ∷ xs) = λ i. e x i || any_both p f q e xs i

all_admit-sets : (entries : List Entry) (states : List ℕ) → all_admit entries states ≡ all_have (map admitted entries) states
all_admit-sets [] [] = refl
all_admit-sets [] (s ∷ states) = refl
all_admit-sets (e ∷ entries) [] = refl
all_admit-sets (e ∷ entries) (s ∷ states) = ap (λ b. has (admitted e) s && b) (all_admit-sets entries states)

-- a transition matches, if the sets of one of its expanded transitions have the states
matches-sets : (table : Table) (around : List ℕ) (t : Transition) → matches table around t ≡ list_any
    (λ sets. all_have (take 1 (sets_of t) ++ sets) (inputs_of table.neighborhood around))
    (distinct same_sets (arrangements table.symmetry (drop 1 (sets_of t))))
matches-sets table around t =
    let inputs = inputs_of table.neighborhood around in
    let has_them : List (List ℕ) → Bool = λ sets. all_have (take 1 (sets_of t) ++ sets) inputs in
    any_both (λ entries. all_admit entries inputs) (λ others. take 1 t.inputs ++ others) (λ others. has_them (map admitted others))
    (λ others. all_admit-sets (take 1 t.inputs ++ others) inputs ∙ ap (λ sets. all_have sets inputs) (map-append admitted (take 1 t.inputs) others ∙ ap (λ front. front ++ map admitted others) (sym (take-map admitted 1 t.inputs))))
    (arrangements table.symmetry (drop 1 t.inputs))
    ∙ sym (any_both has_them (map admitted) (λ others. has_them (map admitted others)) (λ others. refl) (arrangements table.symmetry (drop 1 t.inputs)))
    ∙ ap (list_any has_them) (sym (arrangements-map admitted table.symmetry (drop 1 t.inputs)) ∙ ap (arrangements table.symmetry) (sym (drop-map admitted 1 t.inputs)))
    ∙ sym (any-distinct same_sets same_sets_decides has_them (arrangements table.symmetry (drop 1 (sets_of t))))

-- rows of one result give it, if one of them matches
one_result : (row : List (List ℕ) → Expanded) (result : ℕ) (inputs : List ℕ) → ((sets : List (List ℕ)) → (row sets).result ≡ result)
    → (lists : List (List (List ℕ))) → first_match (map row lists) inputs ≡ cond (list_any (λ sets. all_have (row sets).inputs inputs) lists)
    (Some result) None
one_result row result inputs e [] = refl
one_result row result inputs e (x ∷ lists) = grind (arith, e x, one_result row result inputs e lists)

first_match-append : (xs ys : List Expanded) (inputs : List ℕ) → first_match (xs ++ ys) inputs ≡ option_or (first_match xs inputs) (first_match ys inputs)
first_match-append [] ys inputs = refl
first_match-append (x ∷ xs) ys inputs = grind (arith, first_match-append xs ys inputs)

first_match-one : (table : Table) (around : List ℕ) (t : Transition) → first_match (expanded_one table.symmetry t) (inputs_of table.neighborhood around) ≡ cond (matches table around t) (Some (given t.result)) None
first_match-one table around t =
    one_result (λ others. record { inputs = take 1 (sets_of t) ++ others; result = given t.result }) (given t.result)
    (inputs_of table.neighborhood around) (λ others. refl) (distinct same_sets (arrangements table.symmetry (drop 1 (sets_of t))))
    ∙ ap (λ b. cond b (Some (given t.result)) None) (sym (matches-sets table around t))

first_match-all : (table : Table) (around : List ℕ) (ts : List Transition)
    → first_match (flat_map (expanded_one table.symmetry) ts) (inputs_of table.neighborhood around) ≡ option_map (λ (u : Transition). given u.result)
    (find (matches table around) ts)
first_match-all table around [] = refl
first_match-all table around (t ∷ ts) =
    rw (first_match-append, first_match-one table around t, first_match-all table around ts) (grind arith)

first_result-expanded : (table : Table) (around : List ℕ) (ts : List Transition)
    → unwrap_or (first_match (flat_map (expanded_of table.symmetry) ts) (inputs_of table.neighborhood around)) (slice_index around 0) ≡ first_result
    table around ts
first_result-expanded table around [] = refl
first_result-expanded table around (t ∷ ts) =
    rw (first_match-append, first_match-all table around (assignments t), ← first_result-expanded table around ts) (grind arith)

-- the first expanded transition that matches gives the next state, and where none does the cell keeps its own
pub next-expanded : (table : Table) (around : List ℕ) → unwrap_or (first_match (expanded table) (inputs_of table.neighborhood around)) (slice_index around 0) ≡ next table around
next-expanded table around = first_result-expanded table around table.transitions
