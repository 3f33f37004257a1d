-- Squares that are made in a table.
use Rattle.std.specs.Prelude.{◌≡◌, ⊤, ℕ, suc, ◌+◌, ◌<◌, ◌≤◌, List, length, All, Contains}
use Rattle.worlds.specs.World.{World}
use Rattle.worlds.specs.Square.{Square, one, four, empty_square, square_at}
use Rattle.square_table.specs.Squares.{Table, IsNumber, square_in, first_number, Grows, AreDistinct}
use Rattle.square_table.specs.Centred.{edge}

-- n is the number of one of these squares, which isn't a cell
pub record IsAmong (squares : List Square) (rows : List (List ℕ)) (n : ℕ) : Type 0 where
  pub level : ℕ
  pub numbered : IsNumber rows (suc level) n
  pub listed : Contains squares (square_in rows (suc level) n)

-- the square, which isn't a cell, is one of the table's
pub record IsMade (rows : List (List ℕ)) (s : Square) : Type 0 where
  pub level : ℕ
  pub number : ℕ
  pub numbered : IsNumber rows (suc level) number
  pub square : square_in rows (suc level) number ≡ s

-- each row is that of one of these squares
pub record AreAmong (squares : List Square) (rows : List (List ℕ)) : Type 0 where
  pub each : (i : ℕ) → i < length rows → IsAmong squares rows (first_number + i)

-- the one table with more rows, or none, of these squares is the other, with the same notes
pub record Adds (made : List Square) (old new : Table) : Type 0 where
  pub grows : Grows old new
  pub notes : new.notes ≡ old.notes
  pub among : (all : List Square) → All (Contains all) made →
      AreAmong all old.rows → AreAmong all new.rows

-- the table holds as many squares as it may, and no two of its rows are one
pub record IsFull (t : Table) : Type 0 where
  pub count : length t.rows ≡ t.limit
  pub distinct : AreDistinct t.rows

-- P holds of the square, of its quadrants, of theirs and so on, cells left out
unfoldable pub HoldsWithin : (Square → Type 0) → Square → Type 0
HoldsWithin P (one s) = ⊤
HoldsWithin P (four nw ne sw se) =
    P (four nw ne sw se) × HoldsWithin P nw × HoldsWithin P ne × HoldsWithin P sw × HoldsWithin P se

-- the empty squares below this level are among these
abbrev pub HasEmpty : List Square → ℕ → Type 0
HasEmpty all level = (j : ℕ) → 1 ≤ j → j < level → Contains all (empty_square j)

-- those that a world starts with: round the origin up to level k, with all that they are made of
pub record HasStart (all : List Square) (w : World) (k : ℕ) : Type 0 where
  pub empty : HasEmpty all k
  pub squares : (j : ℕ) → 1 ≤ j → j ≤ k →
      HoldsWithin (Contains all) (square_at w j (edge j) (edge j))
