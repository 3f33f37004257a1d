-- Squares of a table that become the rows of a plane.
use Rattle.std.specs.Prelude.{◌≡◌, ℕ, suc, ◌+◌, ◌-◌, ◌<◌, ◌≤◌, List, length, get_or, Some, IfSome}
use Rattle.worlds.specs.Square.{Square}
use Rattle.plane_core.specs.declared.row.SquareRow.{SquareRow}
use Rattle.plane_core.specs.Rows as listed
use Rattle.plane_core.specs.Rows.{no_row}
use Rattle.plane_core.specs.Walks.{Has, Walks}
use Rattle.plane_core.specs.Centre.{centred}
use Rattle.square_table.specs.declared.pack.PackStep.{PackStep}
use Rattle.square_table.specs.declared.pack.PackStep.TheVariants as found
use Rattle.square_table.specs.declared.pack.Packed.{Packed}
use Rattle.square_table.specs.declared.pack.Quarters.{Quarters}
use Rattle.square_table.specs.declared.square.Square as squares
use Rattle.square_table.specs.Renumbering.{known_of, known_range}
use Rattle.square_table.specs.Squares.{Table, first_number, IsNumber, kids_at, square_in, square_of, AreDistinct, level_of, cells_of}
use Rattle.square_table.specs.Centred.{CentredAlike}

-- the square of the i-th row is one of the table, and its number is remembered
pub record IsSeen (rows : List (List ℕ)) (packed : Packed) (i : ℕ) : Type 0 where
  pub number : ℕ
  pub numbered : IsNumber rows (get_or packed.squares.items i no_row).level number
  pub square : listed.square_in packed.squares.items
      (get_or packed.squares.items i no_row).level (suc i)
      ≡ square_in rows (get_or packed.squares.items i no_row).level number
  pub known : known_of packed.numbers number ≡ Some (suc i)

-- the rows are a plane's, each of one square of the table, and of such squares their numbers are
-- remembered
pub record IsPacking (rows : List (List ℕ)) (packed : Packed) : Type 0 where
  pub distinct : AreDistinct rows
  pub valid : listed.AreRows packed.squares.items
  pub each : (k n : ℕ) → listed.IsNumber packed.squares.items k n →
      Has k (listed.square_in packed.squares.items k n) packed.squares.items n
  pub few : length packed.squares.items < known_range
  pub room : first_number + length rows ≤ length packed.numbers.stamps
  pub known : (k n : ℕ) → 0 < k → IsNumber rows k n →
      IfSome (known_of packed.numbers n) (Has k (square_in rows k n) packed.squares.items)
  pub seen : (i : ℕ) → i < length packed.squares.items → IsSeen rows packed i

-- of the square of level k with the number n its number among the rows of a plane was found, or
-- else its quadrants
abbrev pub IsPackStep : List (List ℕ) → ℕ → ℕ → List SquareRow → PackStep → Type 0
IsPackStep rows k n packed (found.Number m) = Has k (square_in rows k n) packed m
IsPackStep rows k n packed (found.Quadrants kids) = kids ≡ kids_at rows n

-- squares of levels up to k are packed, and what is remembered of others is as it was
pub record Packs (rows : List (List ℕ)) (k : ℕ) (old new : Packed) : Type 0 where
  pub packing : IsPacking rows new
  pub above : (j n : ℕ) → k < j → IsNumber rows j n →
      known_of new.numbers n ≡ known_of old.numbers n

-- the walk of the four squares of level k that the kids stand for gives them these numbers
pub record WalksFour (rows : List (List ℕ)) (k : ℕ) (kids : List ℕ) (old new : List SquareRow)
    (all : List ℕ) : Type 0 where
  pub count : length all ≡ 4
  pub first : List SquareRow
  pub second : List SquareRow
  pub third : List SquareRow
  pub nw : Walks k (square_in rows k (get_or kids 0 0)) old first (get_or all 0 0)
  pub ne : Walks k (square_in rows k (get_or kids 1 0)) first second (get_or all 1 0)
  pub sw : Walks k (square_in rows k (get_or kids 2 0)) second third (get_or all 2 0)
  pub se : Walks k (square_in rows k (get_or kids 3 0)) third new (get_or all 3 0)

-- the square with the quadrants
abbrev pub square_by : List (List ℕ) → Quarters → Square
square_by rows q = square_of rows (q.level - 1) q.kids

-- round the square in its middle it is empty
pub record IsPadded (rows : List (List ℕ)) (q : Quarters) : Type 0 where
  pub nw : Square
  pub ne : Square
  pub sw : Square
  pub se : Square
  pub is : square_by rows q ≡ centred (q.level - 1 - 1) nw ne sw se

-- a world that has the one square round the origin has the other there
abbrev pub SharesSquare : List (List ℕ) → Quarters → Quarters → Type 0
SharesSquare rows q r = CentredAlike q.level (square_by rows q) r.level (square_by rows r)

-- a world that has the table's square round the origin has the one with the quadrants there
abbrev pub IsAlike : Table → squares.Square → Quarters → Type 0
IsAlike t s q = CentredAlike (level_of s) (cells_of t s) q.level (square_by t.rows q)
