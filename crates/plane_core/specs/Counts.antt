-- How many cells of a square have a state, and how that is summed up over rows.
use Rattle.std.specs.Prelude.{◌≡◌, ℕ, zero, suc, ◌+◌, ◌*◌, ◌^◌, ◌≤◌, cond, ◌==◌, List, length, get_or}
use Rattle.plane_core.specs.declared.row.SquareRow.{SquareRow}
use Rattle.plane_core.specs.declared.counts.Tally.{Tally}
use Rattle.worlds.specs.Square.{Square, one, four}
use Rattle.plane_core.specs.Rows.{no_row, square_in}

-- the sum of f over the states of the cells of a square
abbrev pub tally : (ℕ → ℕ) → Square → ℕ
tally f (one s) = f s
tally f (four nw ne sw se) = tally f nw + tally f ne + tally f sw + tally f se

-- 1 for a live state
abbrev pub is_live : ℕ → ℕ
is_live zero = 0
is_live (suc s) = 1

-- 1 for the state s
abbrev pub is_state : ℕ → ℕ → ℕ
is_state s r = cond (r == s) 1 0

-- 1 for each state
abbrev pub is_any : ℕ → ℕ
is_any s = 1

-- how many cells of a square have the state s
abbrev pub cells_with : ℕ → Square → ℕ
cells_with s t = tally (is_state s) t

-- the square of the i-th row
abbrev pub row_square : List SquareRow → ℕ → Square
row_square rows i = square_in rows (get_or rows i no_row).level (suc i)

-- the sum of the first n numbers of g
unfoldable pub sum_to : (ℕ → ℕ) → ℕ → ℕ
sum_to g zero = 0
sum_to g (suc n) = sum_to g n + g n

-- the sum of f over the cells that are counted, and over those of the first rows' squares, each as
-- often as it stands
abbrev pub held : List SquareRow → (ℕ → ℕ) → Tally → ℕ
held rows f t =
    sum_to (λ s. get_or t.counts s 0 * f s) 256
    + sum_to (λ i. get_or t.times.items i 0 * tally f (row_square rows i)) (length t.times.items)

-- a square that stands n times may be added: there are no more cells than in a square of level 62
pub record HasRoom (rows : List SquareRow) (t : Tally) (n : ℕ) (square : Square) : Type 0 where
  pub room : held rows is_any t + n * tally is_any square ≤ 2 ^ 124
  pub states : length t.counts ≡ 256

-- the live cells of a square that stands n times are added, by their states
pub record Gains (rows : List SquareRow) (old new : Tally) (n : ℕ) (square : Square) : Type 0 where
  pub each : (f : ℕ → ℕ) → f 0 ≡ 0 → held rows f new ≡ held rows f old + n * tally f square
  pub most : held rows is_any new ≤ held rows is_any old + n * tally is_any square
  pub none : get_or new.counts 0 0 ≡ get_or old.counts 0 0
  pub states : length new.counts ≡ 256
  pub left : length new.times.items ≡ length old.times.items

-- the rows that are left, each as often as it stands, and the counts hold the live cells of the
-- root
pub record IsTallied (rows : List SquareRow) (root : Square) (t : Tally) : Type 0 where
  pub each : (f : ℕ → ℕ) → f 0 ≡ 0 → held rows f t ≡ tally f root
  pub most : held rows is_any t ≤ 2 ^ 124
  pub none : get_or t.counts 0 0 ≡ 0
  pub states : length t.counts ≡ 256
  pub left : length t.times.items ≤ length rows
