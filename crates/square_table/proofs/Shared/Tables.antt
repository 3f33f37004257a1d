-- Rows as numbers, and tables with one more row.
use Rattle.square_table.proofs.Names.{List, [], arith, first_number, get_or, get_or_append_left, get_or_push, kid_at, length, length_push, refl, suc, sym, zero, ℕ, ◌++◌, ◌+◌, ◌<◌, ◌∷◌, ◌≡◌, ◌≤◌}
use Rattle.square_table.specs.Squares.{IsNumber, square_in}

-- an old row of a longer list
pub kept_row : (rows : List (List ℕ)) (row : List ℕ) (i : ℕ) → i < length rows → get_or (rows ++ row ∷ []) i [] ≡ get_or rows i []
kept_row rows row i h = get_or_append_left rows (row ∷ []) [] i h

-- the new one
pub last_row : (rows : List (List ℕ)) (row : List ℕ) (i : ℕ) → i ≡ length rows → get_or (rows ++ row ∷ []) i [] ≡ row
last_row rows row i h = get_or_push rows row [] i (sym h)

kept_kid : (rows : List (List ℕ)) (row : List ℕ) (n q : ℕ) → first_number ≤ n → n < first_number + length rows → kid_at (rows ++ row ∷ []) n q ≡ kid_at rows n q
kept_kid rows row n q above there = grind (arith, kept_row)

-- an old number
pub IsNumber-more : (rows : List (List ℕ)) (row : List ℕ) (k n : ℕ) → IsNumber rows k n → IsNumber (rows ++ row ∷ []) k n
unfolding IsNumber
IsNumber-more rows row zero n h = h
IsNumber-more rows row (suc k) n h =
    let size = length_push rows row in
    let kid : (q : ℕ) → IsNumber rows k (kid_at rows n q) → IsNumber (rows ++ row ∷ []) k (kid_at (rows ++ row ∷ []) n q) =
    λ q g. rw (kept_kid rows row n q h.0 h.1) (IsNumber-more rows row k (kid_at rows n q) g) in
    (h.0, omega (arith, h.1, size), kid 0 h.2, kid 1 h.3, kid 2 h.4, kid 3 h.5)

-- its square
pub square_in-more : (rows : List (List ℕ)) (row : List ℕ) (k n : ℕ) → IsNumber rows k n → square_in (rows ++ row ∷ []) k n ≡ square_in rows k n
unfolding IsNumber square_in
square_in-more rows row zero n h = refl
square_in-more rows row (suc k) n h =
    let kid = λ (q : ℕ). kept_kid rows row n q h.0 h.1 in
    let same = λ (m : ℕ) (g : IsNumber rows k m). square_in-more rows row k m g in
    grind (arith, kid, same)

pub above_zero : (rows : List (List ℕ)) (k n : ℕ) → 0 < k → IsNumber rows k n → (first_number ≤ n) × (n < first_number + length rows)
unfolding IsNumber
above_zero rows k n some h = grind (arith)
