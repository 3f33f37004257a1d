-- Squares with room round them.
use Rattle.std.specs.Prelude.{◌≡◌, ℕ, suc, ◌+◌, ◌-◌, ◌≤◌, List, Contains}
use Rattle.worlds.specs.World.{World}
use Rattle.worlds.specs.Square as squares
use Rattle.worlds.specs.Square.{one, four, empty_square}
use Rattle.square_table.specs.declared.square.Square.{Square}
use Rattle.square_table.specs.Squares.{Table, IsNumber, square_in, IsHeld, Grows, level_of, cells_of}
use Rattle.square_table.specs.Made.{AreAmong, HasEmpty, HasStart, HoldsWithin}
use Rattle.square_table.specs.Centred.{IsCentred}
use Rattle.step_engine.specs.Reach.{IsRoomLevel}

-- the square of level k + 2 in whose middle the square of these four of level k stands, and which
-- else is empty
abbrev pub padded : ℕ → squares.Square → squares.Square
padded k (four nw ne sw se) =
    let e = empty_square k in four (four e e e nw) (four e e ne e) (four e sw e e) (four se e e e)
padded k (one s) = one s

-- in the table that came of t the number n is that of the square with empty ones round it
pub record IsPaddedNumber (t : Table) (square : Square) (u : Table) (n : ℕ) : Type 0 where
  pub numbered : IsNumber u.rows (level_of square + 1) n
  pub cells : square_in u.rows (level_of square + 1) n
      ≡ padded (level_of square - 1) (cells_of t square)
  pub limit : u.limit ≡ t.limit

-- in the table that came of t the square s is the one with empty ones round it
pub record IsPadded (t : Table) (square : Square) (u : Table) (s : Square) : Type 0 where
  pub held : IsHeld u s
  pub level : level_of s ≡ level_of square + 1
  pub cells : cells_of u s ≡ padded (level_of square - 1) (cells_of t square)
  pub limit : u.limit ≡ t.limit

-- the table has more rows, or none, of what a square with empty ones round it is made of, and the same
-- notes
pub record AddsPadded (t : Table) (square : Square) (u : Table) : Type 0 where
  pub grows : Grows t u
  pub notes : u.notes ≡ t.notes
  pub among : (all : List squares.Square) → HasEmpty all (level_of square) →
      HoldsWithin (Contains all) (padded (level_of square - 1) (cells_of t square)) →
      AreAmong all t.rows → AreAmong all u.rows

-- the square s, of the level, is that of each world that the other square is of
pub record IsWidened (t : Table) (square : Square) (level : ℕ) (u : Table) (s : Square)
    : Type 0 where
  pub held : IsHeld u s
  pub raised : level_of s ≡ level
  pub centred : (w : World) → IsCentred w (level_of square) (cells_of t square) →
      IsCentred w level (cells_of u s)

-- the table has more rows, or none, of squares that a world starts with up to the level, and the same
-- notes
pub record AddsRound (t : Table) (square : Square) (level : ℕ) (u : Table) : Type 0 where
  pub grows : Grows t u
  pub notes : u.notes ≡ t.notes
  pub among : (w : World) (all : List squares.Square) →
      IsCentred w (level_of square) (cells_of t square) → HasStart all w level →
      AreAmong all t.rows → AreAmong all u.rows

-- the handle is of a square of the table that is the world's round the origin
pub record IsSquareOf (t : Table) (w : World) (s : Square) : Type 0 where
  pub held : IsHeld t s
  pub low : 1 ≤ level_of s
  pub centred : IsCentred w (level_of s) (cells_of t s)

-- root is the square of the world at the least level with room for n generations
pub record IsRooted (w : World) (n : ℕ) (u : Table) (root : Square) : Type 0 where
  pub held : IsHeld u root
  pub level : (k : ℕ) → IsRoomLevel n w k → level_of root ≡ suc (suc k)
  pub centred : IsCentred w (level_of root) (cells_of u root)

-- the table has more rows, or none, of squares that the world starts with up to that level, and the
-- same notes
pub record AddsStart (w : World) (n : ℕ) (t u : Table) : Type 0 where
  pub grows : Grows t u
  pub notes : u.notes ≡ t.notes
  pub k : ℕ
  pub root : IsRoomLevel n w k
  pub among : (all : List squares.Square) → HasStart all w (suc (suc k)) →
      AreAmong all t.rows → AreAmong all u.rows
