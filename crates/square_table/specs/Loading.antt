-- Planes that become squares of a table, row by row.
use Rattle.std.specs.Prelude.{◌≡◌, ℕ, zero, suc, ◌<◌, ◌≤◌, List, [], ◌∷◌, length, get_or, Contains}
use Rattle.worlds.specs.World.{World}
use Rattle.worlds.specs.Range.{AllBelow}
use Rattle.worlds.specs.Square.{Square, empty_square}
use Rattle.plane_core.specs.declared.row.SquareRow.{SquareRow}
use Rattle.plane_core.specs.Rows as listed
use Rattle.plane_core.specs.Rows.{no_row, kid, AreRows, root_level, Fits, IsLeastLevel}
use Rattle.square_table.specs.declared.square.Square as squares
use Rattle.square_table.specs.Squares.{Table, IsNumber, square_in, Grows, AllStatesBelow, IsHeld, level_of, cells_of}
use Rattle.square_table.specs.Centred.{IsCentred}
use Rattle.square_table.specs.Made.{AreAmong, HasEmpty, HasStart}

-- the k-th is the number of the square of level k with no live cell
pub record AreBlanks (rows : List (List ℕ)) (blanks : List ℕ) : Type 0 where
  pub numbers : (k : ℕ) → k < length blanks → IsNumber rows k (get_or blanks k 0)
  pub empty : (k : ℕ) → k < length blanks → square_in rows k (get_or blanks k 0) ≡ empty_square k

-- n is the number of the square of the i-th row of a plane
pub record IsLoadedAt (squares : List SquareRow) (rows : List (List ℕ)) (i n : ℕ) : Type 0 where
  pub number : IsNumber rows (get_or squares i no_row).level n
  pub square : square_in rows (get_or squares i no_row).level n
      ≡ listed.square_in squares (get_or squares i no_row).level (suc i)

-- these are the numbers of the squares of the first rows of a plane
pub record AreLoaded (squares : List SquareRow) (rows : List (List ℕ)) (numbers : List ℕ)
    : Type 0 where
  pub few : length numbers ≤ length squares
  pub each : (i : ℕ) → i < length numbers → IsLoadedAt squares rows i (get_or numbers i 0)

-- the number of the square of level k that a kid of a plane's row stands for
unfoldable pub number_in : List ℕ → List ℕ → ℕ → ℕ → ℕ
number_in blanks numbers zero n = n
number_in blanks numbers (suc k) zero = get_or blanks (suc k) 0
number_in blanks numbers (suc k) (suc i) = get_or numbers i 0

-- no level is above n
abbrev pub LevelsUpTo : ℕ → List SquareRow → Type 0
LevelsUpTo n squares = (i : ℕ) → i < length squares → (get_or squares i no_row).level ≤ n

-- the rows of a plane, of which the first have these numbers in the table, and the blank squares
-- that they need
pub record IsLoading (squares : List SquareRow) (blanks : List ℕ) (rows : List (List ℕ))
    (numbers : List ℕ) : Type 0 where
  pub valid : AreRows squares
  pub levels : LevelsUpTo (length blanks) squares
  pub blank : AreBlanks rows blanks
  pub loaded : AreLoaded squares rows numbers

-- each state in a plane's rows is below c
abbrev pub CellsBelow : ℕ → List SquareRow → Type 0
CellsBelow c squares = (i q : ℕ) → i < length squares → q < 4 →
    (get_or squares i no_row).level ≡ 1 → kid (get_or squares i no_row) q < c

-- the square of the i-th row of a plane
abbrev pub row_square : List SquareRow → ℕ → Square
row_square squares i = listed.square_in squares (get_or squares i no_row).level (suc i)

-- those of a plane's rows are among these squares
abbrev pub HasRows : List Square → List SquareRow → Type 0
HasRows all squares = (i : ℕ) → i < length squares → Contains all (row_square squares i)

-- the table has more rows, or none: of a plane's squares, and of empty ones below this level; its
-- notes are the same
pub record GrowsFrom (level : ℕ) (squares : List SquareRow) (old new : Table) : Type 0 where
  pub grows : Grows old new
  pub notes : new.notes ≡ old.notes
  pub states : (c : ℕ) → 0 < c → CellsBelow c squares →
      AllStatesBelow c old.rows → AllStatesBelow c new.rows
  pub among : (all : List Square) → HasEmpty all level → HasRows all squares →
      AreAmong all old.rows → AreAmong all new.rows

-- a plane's empty squares are below this level: that of the root, or 2 where there are no rows
abbrev pub empty_below : List SquareRow → ℕ
empty_below [] = 2
empty_below (row ∷ rows) = root_level (row ∷ rows)

-- the table has more rows, or none, of squares that a world starts with up to a level that holds it,
-- and the same notes
pub record GrowsFor (w : World) (old new : Table) : Type 0 where
  pub grows : Grows old new
  pub notes : new.notes ≡ old.notes
  pub among : (k : ℕ) (all : List Square) → 1 ≤ k → Fits k w → HasStart all w k →
      AreAmong all old.rows → AreAmong all new.rows

-- no state in the table is too high for a rule of which the world's and the table's were not
abbrev pub KeepsStates : World → Table → Table → Type 0
KeepsStates w old new = (c : ℕ) → 1 ≤ c → AllBelow c w →
    AllStatesBelow c old.rows → AllStatesBelow c new.rows

-- k is the least level from 1 up that holds the live cells, and one of a plane's
pub record IsRootLevel (k : ℕ) (w : World) : Type 0 where
  pub low : 1 ≤ k
  pub high : k ≤ 62
  pub least : IsLeastLevel k w

-- the handle is that of the world's square round the origin, at the least level
pub record TellsWorld (t : Table) (w : World) (s : squares.Square) : Type 0 where
  pub held : IsHeld t s
  pub level : IsRootLevel (level_of s) w
  pub centred : IsCentred w (level_of s) (cells_of t s)
