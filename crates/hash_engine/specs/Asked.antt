-- Which squares were put to the rule, and how often it was asked.
use Rattle.std.specs.Prelude.{◌&&◌, not, Bool, cond, nat_lt, ℕ, zero, suc, ◌+◌, List, [], ◌∷◌, Contains, length, get_or}
use Rattle.worlds.specs.Square.{Square}
use Rattle.square_table.specs.Squares.{Table, kid_at, first_number}
use Rattle.hash_engine.specs.Memo.{IsPut}

-- whether n is the number of a square of 4 by 4 cells: its first quadrant is a square, whose first
-- quadrant is a cell
abbrev pub is_four : List (List ℕ) → ℕ → Bool
is_four rows n =
    let quadrant = kid_at rows n 0 in
    not (nat_lt quadrant first_number) && nat_lt quadrant (first_number + length rows)
    && nat_lt (kid_at rows quadrant 0) first_number

-- whether the square at the place i was put to the rule: its result one generation later is known
unfoldable pub is_put : List (List ℕ) → List ℕ → ℕ → Bool
is_put rows full i = is_four rows (first_number + i) && nat_lt 0 (get_or full i 0)

-- the numbers below n that pass a test, the greatest first
unfoldable pub picked : (ℕ → Bool) → ℕ → List ℕ
picked test zero = []
picked test (suc i) = cond (test i) (i ∷ picked test i) (picked test i)

-- the places of the squares that were put to the rule
unfoldable pub places_put : Table → List ℕ
places_put t = picked (is_put t.rows t.notes) (length t.rows)

-- no square was put to the rule but these
abbrev pub PutsOnly : List Square → Table → Type 0
PutsOnly all t = (s : Square) → IsPut t.rows t.notes s → Contains all s
