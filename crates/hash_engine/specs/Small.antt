-- The squares of up to 4 by 4 cells of states 0 and 1, with which a table may begin.
use Rattle.std.specs.Prelude.{◌≡◌, ℕ, ◌+◌, ◌/◌, ◌%◌, ◌<◌, ◌≤◌, List, [], ◌∷◌, length, get_or}
use Rattle.square_table.specs.Squares.{Table, square_in}
use Rattle.hash_life_laws.specs.Result.{result}
use Rattle.bit_blocks.specs.Numbers.{eight_of, sixteen_of}
use Rattle.hash_engine.specs.Standing.{StandsFor}

-- the cells of the i-th square of 2 by 2 cells
abbrev pub two_kids : ℕ → List ℕ
two_kids i = i % 2 ∷ i / 2 % 2 ∷ i / 4 % 2 ∷ i / 8 % 2 ∷ []

-- the numbers of the quadrants of the i-th square of 4 by 4 cells
abbrev pub four_kids : ℕ → List ℕ
four_kids i =
    (256 + i % 16) ∷ (256 + i / 16 % 16) ∷ (256 + i / 256 % 16) ∷ (256 + i / 4096 % 16) ∷ []

-- the number of the first of those of 4 by 4 cells, and how many small squares there are
abbrev pub first_four : ℕ
first_four = 272

abbrev pub small_count : ℕ
small_count = 65552

-- the first rows are those of the first so many squares of 2 by 2 cells
pub record HasTwos (many : ℕ) (rows : List (List ℕ)) : Type 0 where
  pub there : many ≤ length rows
  pub each : (i : ℕ) → i < many → get_or rows i [] ≡ two_kids i

-- behind all of those are the rows of the first so many squares of 4 by 4 cells
pub record HasFours (many : ℕ) (rows : List (List ℕ)) : Type 0 where
  pub twos : HasTwos 16 rows
  pub there : 16 + many ≤ length rows
  pub each : (i : ℕ) → i < many → get_or rows (16 + i) [] ≡ four_kids i

-- a table begins with all small squares
abbrev pub BeginsWithSmall : List (List ℕ) → Type 0
BeginsWithSmall = HasFours 65536

-- a table has all of them and no other square
pub record IsSmall (rows : List (List ℕ)) : Type 0 where
  pub begins : BeginsWithSmall rows
  pub count : length rows ≡ small_count

-- a table has more rows, or none, and is the same else
pub record KeepsRest (old new : Table) : Type 0 where
  pub limit : new.limit ≡ old.limit
  pub notes : new.notes ≡ old.notes

-- a square of 8 by 8 cells consists of four blocks, where the table begins with the small squares
abbrev pub AreBlocksOf : List (List ℕ) → ℕ → List ℕ → Type 0
AreBlocksOf rows number blocks = BeginsWithSmall rows → square_in rows 3 number ≡ eight_of blocks

-- so does one of 16 by 16 cells of four times four
abbrev pub IsSixteen : List (List ℕ) → ℕ → List (List ℕ) → Type 0
IsSixteen rows number blocks = BeginsWithSmall rows → square_in rows 4 number ≡ sixteen_of blocks

-- in the table that came of t the number r is that of the square's middle four generations later
abbrev pub FindsSixteen : (List ℕ → ℕ) → ℕ → Table → Table → ℕ → Type 0
FindsSixteen next number t u = λ r.
    StandsFor u.rows 3 r (result next 2 4 (square_in t.rows 4 number))
