-- Squares of 16 by 16 cells as rows of eight places, each of which has the number of a square of 2
-- by 2 cells.
use Rattle.std.specs.Prelude.{◌≡◌, ◌≢◌, ℕ, ◌+◌, ◌*◌, ◌/◌, ◌%◌, ◌<◌, ◌≤◌, List, [], get_or}
use Rattle.hash_life_laws.specs.Result.{later}
use Rattle.bit_blocks.specs.Numbers.{two_of, block_of}

-- the column of two squares at a place and below it, as in a block's number
abbrev pub column_at : List ℕ → ℕ → ℕ
column_at grid place = get_or grid place 0 + 256 * get_or grid (place + 8) 0

-- the number of the block whose upper left square is at a place
abbrev pub block_at : List ℕ → ℕ → ℕ
block_at grid place = column_at grid place + 16 * column_at grid (place + 1)

-- no places but the four of the block at a place were written
pub record IsSameBut (place : ℕ) (old new : List ℕ) : Type 0 where
  pub others : (k : ℕ) → k ≢ place → k ≢ place + 1 → k ≢ place + 8 → k ≢ place + 9 →
      get_or new k 0 ≡ get_or old k 0

-- the sixteen blocks of four times four, row by row
abbrev pub block_number : List (List ℕ) → ℕ → ℕ
block_number blocks k =
    get_or (get_or blocks (2 * (k / 8) + k % 4 / 2) []) (2 * (k / 4 % 2) + k % 2) 0

-- and the places of their upper left squares
abbrev pub corner_of : ℕ → ℕ
corner_of k = 16 * (k / 4) + 2 * (k % 4)

-- the first n of them stand in the grid
pub record HasBlocks (blocks : List (List ℕ)) (n : ℕ) (grid : List ℕ) : Type 0 where
  pub each : (k : ℕ) → k < n → block_at grid (corner_of k) ≡ block_number blocks k

-- from the first place to the one before the last, each has the middle, one generation later, of
-- the block at that place of the grid
pub record AreLater (next : List ℕ → ℕ) (grid new : List ℕ) (first last : ℕ) : Type 0 where
  pub each : (place : ℕ) → first ≤ place → place < last →
      two_of (get_or new place 0) ≡ later next (block_of (block_at grid place))

-- so it is with the first places of as many rows
pub record IsStepped (next : List ℕ → ℕ) (count : ℕ) (grid new : List ℕ) : Type 0 where
  pub rows : (row : ℕ) → row < count → AreLater next grid new (8 * row) (8 * row + count)
