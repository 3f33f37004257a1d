-- What a walk remembers of the rows that it has seen.
use Rattle.std.specs.Prelude.{◌≡◌, ℕ, suc, ◌<◌, ◌^◌, List, length, get_or, [], Option, Some, None}
use Rattle.plane_core.specs.declared.row.SquareRow.{SquareRow}
use Rattle.worlds.specs.Square.{Square}
use Rattle.plane_core.specs.Rows.{no_row, number_square, square_in, AreRows, IsNumber, root_level, root_of}

-- the number of a square is n, and it adds nothing
abbrev pub Has : ℕ → Square → List SquareRow → ℕ → Type 0
Has k t rows n = number_square k t rows ≡ record { rows = rows; number = n }

-- a walk of a square takes the completed rows from old to new, and gives it the number n
abbrev pub Walks : ℕ → Square → List SquareRow → List SquareRow → ℕ → Type 0
Walks k t old new n = number_square k t old ≡ record { rows = new; number = n }

-- what is remembered of a row is the number of its square among the completed rows, of which
-- numbers can tell
pub record Remembers (rows done : List SquareRow) (numbers : List (Option ℕ)) : Type 0 where
  pub few : length done < 2 ^ 32
  pub count : length numbers ≡ length rows
  pub each : (i n : ℕ) → i < length rows → get_or numbers i None ≡ Some n
      → Has (get_or rows i no_row).level (square_in rows (get_or rows i no_row).level (suc i)) done
      n

-- the rows that a walk of their root gives: each is the one of its square, and isn't empty
pub record AreWalked (rows : List SquareRow) : Type 0 where
  pub valid : AreRows rows
  pub each : (k n : ℕ) → IsNumber rows k n → Has k (square_in rows k n) rows n
  pub walked : (number_square (root_level rows) (root_of rows) []).rows ≡ rows
