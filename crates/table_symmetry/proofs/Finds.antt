-- A look-up tells which rows match, 64 at a time, and finds what the first of them gives.
use Rattle.table_symmetry.proofs.Names.{All, All-get_or, All-map, AllPass-from_list_all, AreNineBelow, Bool, Expanded, HasColumns, HaveInputs, HoldsAt, IsLookupOf, List, MatchOption, None, Option, Some, TellRows, [], all_have, ap, arith}
use Rattle.table_symmetry.proofs.Names.{bit_and, bit_at, bit_at-lt, bit_at_and, cases_lt, false, find, first_match, get_or, has, inl, inputs_of, inr, is_bit_set, length, length-map, map, nat_lt, nat_tests, option_copied, option_map}
use Rattle.table_symmetry.proofs.Names.{places_of, refl, row_has, slice_get, slice_get-get_or, slice_get_past, slice_index, suc, sym, true, zero, ℕ, ◌%◌, ◌&&◌, ◌*◌, ◌+◌, ◌-◌, ◌/◌, ◌<◌, ◌==◌, ◌∙◌, ◌∷◌, ◌≡◌, ◌≤◌, ◌⊎◌}
use Rattle.std.specs.Borrow.{Bor}
use Rattle.table_symmetry.specs.declared.lookup.Lookup.{Lookup}
use Rattle.table_lines.specs.declared.neighborhood.Neighborhood.{Neighborhood}
use Rattle.table_symmetry.proofs.Columns.{AreRight}

-- the states of the inputs are among those around
inputs_below : (n : ℕ) (neighborhood : Neighborhood) (around : List ℕ) → AreNineBelow n around → All (λ s. s < n) (inputs_of neighborhood around)
inputs_below n neighborhood around nine =
    let places = 0 ∷ places_of neighborhood in
    All-map (λ s. s < n) (slice_index around) places (λ k d l.
    let near : nat_lt (get_or places k d) 9 ≡ true = AllPass-from_list_all (λ p. nat_lt p 9) places (grind arith) k d l in
    All-get_or (λ s. s < n) around (get_or places k d) 0 (grind (arith, nat_tests, near, nine.nine)) nine.below)

-- the columns tell whether the sets have the states
row_has-all : (columns : List (List (List ℕ))) (sets : List (List ℕ)) (inputs : List ℕ) (row : ℕ) → length columns ≡ length inputs → length sets ≡ length inputs
    → ((p : ℕ) → p < length inputs → is_bit_set (get_or (get_or columns p []) (get_or inputs p 0) []) row ≡ has (get_or sets p []) (get_or inputs p 0))
    → row_has columns inputs row ≡ all_have sets inputs
row_has-all [] [] [] row l m h = refl
row_has-all (c ∷ columns) (x ∷ sets) (s ∷ inputs) row l m h =
    λ i. h 0 (omega arith) i && row_has-all columns sets inputs row (omega arith) (omega arith) (λ p k. h (suc p) (omega arith)) i
row_has-all columns sets inputs row l m h = absurd (omega arith)

pub columns_tell : (neighborhood : Neighborhood) (rows : List Expanded) (n : ℕ) (columns : List (List (List ℕ))) → HaveInputs neighborhood rows → AreRight (HasColumns rows n) [] columns (length (places_of neighborhood) + 1)
    → (around : List ℕ) → AreNineBelow n around → (row : ℕ) (d : Expanded) → row < length rows → row_has columns (inputs_of neighborhood around) row ≡ all_have (get_or rows row d).inputs (inputs_of neighborhood around)
columns_tell neighborhood rows n columns full right around nine row d l =
    let inputs : List ℕ = inputs_of neighborhood around in
    let count = length-map (places_of neighborhood) (λ place. slice_index around place) in
    row_has-all columns (get_or rows row d).inputs inputs row (omega (arith, right.long, count)) (omega (arith, full row d l, count))
    (λ p m. right.each p (omega (arith, m, count)) (get_or inputs p 0) (inputs_below n neighborhood around nine p 0 m) row d l)

-- the bits of a word tell which rows have the first states, and the last columns and states are left
pub record IsNarrowed (columns : List (List (List ℕ))) (inputs : List ℕ) (word rows : ℕ) (last_columns : List (List (List ℕ))) (last_inputs : List ℕ) : Type 0 where
  pub narrowed : (bit : ℕ) → bit < 64 → row_has columns inputs (64 * word + bit) ≡ ((bit_at rows bit == 1) && row_has last_columns last_inputs (64 * word + bit))

pub IsNarrowed-more : {columns xs ys : List (List (List ℕ))} {inputs ss ts : List ℕ} {word rows : ℕ} (x : List (List ℕ)) (s more : ℕ)
    → xs ≡ x ∷ ys → ss ≡ s ∷ ts → more ≡ get_or (get_or x s []) word 0 → IsNarrowed columns inputs word rows xs ss → IsNarrowed columns inputs word (bit_and rows more) ys ts
IsNarrowed-more {word = word} {rows = rows} x s more ex es em n = record {
  narrowed = λ bit h.
      let number : (64 * word + bit) / 64 ≡ word = omega arith in
      let place : (64 * word + bit) % 64 ≡ bit = omega arith in
      n.narrowed bit h ∙ rw (ex, es, number, place, ← em) (grind (arith, nat_tests, bit_at_and rows more bit, bit_at-lt rows bit, bit_at-lt more bit));
}

pub nothing_left : (ys : List (List (List ℕ))) (ts : List ℕ) (row : ℕ) → (ys ≡ []) ⊎ (ts ≡ []) → row_has ys ts row ≡ true
nothing_left [] ts row h = refl
nothing_left (y ∷ ys) ts row h = grind arith

-- no row before a bit of a word passes, where none before the word does and the lower bits aren't set
pub none_below : (columns : List (List (List ℕ))) (inputs : List ℕ) (word rows bit : ℕ) → TellRows columns inputs word rows → bit ≤ 64 → ((i : ℕ) → i < bit → bit_at rows i ≡ 0)
    → ((row : ℕ) → row < 64 * word → row_has columns inputs row ≡ false) → (row : ℕ) → row < 64 * word + bit → row_has columns inputs row ≡ false
none_below columns inputs word rows bit tells few unset before row l = elim (cases_lt row (64 * word)) [
  | inl low ↦ before row low
  | inr high ↦
      let same : 64 * word + (row - 64 * word) ≡ row = omega arith in
      grind (arith, tells (row - 64 * word) (omega arith), unset (row - 64 * word) (omega arith))
]

-- the first of some rows that passes, by its number; none does where that is past the end
first_passing : (p : Expanded → Bool) (rows : List Expanded) (number : ℕ) → ((k : ℕ) (d : Expanded) → k < length rows → k < number → p (get_or rows k d) ≡ false)
    → ((d : Expanded) → number < length rows → p (get_or rows number d) ≡ true) → option_map (λ row. row.result) (find p rows) ≡ slice_get (map (λ row. row.result) rows) number
first_passing p [] number fails passes = refl
first_passing p (x ∷ rows) zero fails passes = rw (passes x (omega arith)) refl
first_passing p (x ∷ rows) (suc number) fails passes =
    rw (fails 0 x (omega arith) (omega arith)) (first_passing p rows number (λ k d l m. fails (suc k) d (omega arith) (omega arith)) (λ d l. passes d (omega arith)))

pub first_found : {lookup : Lookup} {n : ℕ} {neighborhood : Neighborhood} {around : List ℕ} (rows : List Expanded) (number : ℕ) → IsLookupOf rows n neighborhood lookup → AreNineBelow n around
    → ((k : ℕ) → k < number → row_has lookup.columns (inputs_of neighborhood around) k ≡ false) → (number < length rows → row_has lookup.columns (inputs_of neighborhood around) number ≡ true)
    → slice_get lookup.results number ≡ first_match rows (inputs_of neighborhood around)
first_found {neighborhood = neighborhood} {around = around} rows number is nine fails passes =
    ap (λ results. slice_get results number) is.results ∙ sym (first_passing (λ row. all_have row.inputs (inputs_of neighborhood around)) rows number
    (λ k d l m. sym (is.tells around nine k d l) ∙ fails k m) (λ d l. sym (is.tells around nine number d l) ∙ passes l))

-- what `get` and `copied` give
pub slice_get-copied : (results : List ℕ) (number : ℕ) (o : Option (Bor ℕ)) → MatchOption o (length results ≤ number) (λ x. (number < length results) × HoldsAt (λ y. x.now ≡ y) results number) → option_copied o ≡ slice_get results number
slice_get-copied results number None m = sym (slice_get_past results number m)
slice_get-copied results number (Some x) m = ap (λ (r : ℕ). Some r) (m.1 0) ∙ sym (slice_get-get_or results number 0 m.0)
