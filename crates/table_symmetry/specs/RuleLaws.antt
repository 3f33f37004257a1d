-- What holds of every table that a file may have.
use Rattle.std.specs.Prelude.{◌≡◌, ℕ, zero, suc, ◌<◌, Bool, true, false, List, [], ◌∷◌, slice_index, slice_index_or, find, unwrap_or, Some, nat_lt}
use Rattle.std.specs.List.{list_all}
use Rattle.std.specs.Option.{option_map}
use Rattle.std.proofs.Common.{refl, sym, subst, cond, arith, rules, tests}
use Rattle.std.proofs.lemmas.Bool.{and_parts}
use Rattle.worlds.specs.Step.{nine_zeros, AreNineBelow}
use Rattle.table_lines.specs.declared.transition.Transition.{Transition}
use Rattle.table_symmetry.specs.Table.{Table}
use Rattle.table_symmetry.specs.NextState.{next, first_result, matches, given, assignments, is_quiescent, gives_states}
use Rattle.table_symmetry.specs.Rule.{is_sound}

-- a cell of state 0 among such cells keeps it
pub next-quiet : (table : Table) → is_sound table ≡ true → next table nine_zeros ≡ 0
next-quiet table sound =
    let quiet : is_quiescent table ≡ true =
    (and_parts (is_quiescent table) (list_all (gives_states table.states) table.transitions)
    sound).0 in
    search (rules, tests)

-- what holds of each of a list holds of what is found in it
found_below : (p q : Transition → Bool) (f : Transition → ℕ) (n d : ℕ) (xs : List Transition)
    → ((s : Transition) → q s ≡ true → f s < n) → d < n → list_all q xs ≡ true
    → unwrap_or (option_map f (find p xs)) d < n
found_below p q f n d [] each low h = low
found_below p q f n d (x ∷ xs) each low h =
    let parts = and_parts (q x) (list_all q xs) h in
    elim (p x) as (λ v. unwrap_or (option_map f (cond v (Some x) (find p xs))) d < n)
    [ true ↦ each x parts.0 | false ↦ found_below p q f n d xs each low parts.1 ]

first_result-below : (table : Table) (around : List ℕ) (n : ℕ) (ts : List Transition)
    → slice_index around 0 < n → list_all (gives_states n) ts ≡ true
    → first_result table around ts < n
first_result-below table around n [] low h = low
first_result-below table around n (t ∷ ts) low h =
    let parts = and_parts (gives_states n t) (list_all (gives_states n) ts) h in
    found_below (matches table around) (λ u. nat_lt (given u.result) n) (λ u. given u.result) n
    (first_result table around ts) (assignments t) (λ u k. search (rules, tests))
    (first_result-below table around n ts low parts.1) parts.0

-- the next state is a state
pub next-below : (table : Table) (states : List ℕ) → is_sound table ≡ true
    → AreNineBelow table.states states → next table states < table.states
next-below table states sound nine =
    first_result-below table states table.states table.transitions
    (nine.below 0 0 (omega (arith, nine.nine)))
    (and_parts (is_quiescent table) (list_all (gives_states table.states) table.transitions)
    sound).1

zeros_at : (k d : ℕ) → k < 9 → slice_index_or nine_zeros k d ≡ 0
zeros_at zero d h = refl
zeros_at (suc zero) d h = refl
zeros_at (suc (suc zero)) d h = refl
zeros_at (suc (suc (suc zero))) d h = refl
zeros_at (suc (suc (suc (suc zero)))) d h = refl
zeros_at (suc (suc (suc (suc (suc zero))))) d h = refl
zeros_at (suc (suc (suc (suc (suc (suc zero)))))) d h = refl
zeros_at (suc (suc (suc (suc (suc (suc (suc zero))))))) d h = refl
zeros_at (suc (suc (suc (suc (suc (suc (suc (suc zero)))))))) d h = refl
zeros_at (suc (suc (suc (suc (suc (suc (suc (suc (suc k))))))))) d h = absurd (omega (arith, h))

-- nine zeros are states
pub zeros-below : (n : ℕ) → 0 < n → AreNineBelow n nine_zeros
zeros-below n some =
    record { nine = refl; below = λ k d h. subst (λ s. s < n) (sym (zeros_at k d h)) some }
