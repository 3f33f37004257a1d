-- What the numbers of a table mean.
use Rattle.std.specs.Prelude.{◌≡◌, ◌↔◌, ◌⊎◌, ℕ, zero, suc, ◌+◌, ◌-◌, ◌<◌, ◌≤◌, List, [], ◌∷◌, ◌++◌, length, get_or, slice_index_or, slice_set, replicate}
use Rattle.worlds.specs.Square as squares
use Rattle.worlds.specs.Square.{one, four}
use Rattle.square_table.specs.declared.square.Square.{Square}

-- squares are numbered from 256 on, and below it cells by their states
abbrev pub first_number : ℕ
first_number = 256

-- what contracts see of a table: the quadrants of each square, in the order of numbers, how many
-- squares it may hold, and for as many what is noted of each, or 0
pub record Table : Type 0 where
  pub rows : List (List ℕ)
  pub limit : ℕ
  pub notes : List ℕ

-- no table may hold more: 2^24 squares, and the 65,552 of up to 4 by 4 cells of two states
abbrev pub most_squares : ℕ
most_squares = 16842768

-- a table with no square
abbrev pub no_squares : ℕ → Table
no_squares limit = record { rows = []; limit = limit; notes = replicate limit 0 }

-- the quadrants of the square with this number
abbrev pub kids_at : List (List ℕ) → ℕ → List ℕ
kids_at rows n = get_or rows (n - first_number) []

-- the q-th of the quadrants nw, ne, sw and se
abbrev pub kid_at : List (List ℕ) → ℕ → ℕ → ℕ
kid_at rows n q = get_or (kids_at rows n) q 0

-- n is the number of a square of level k
unfoldable pub IsNumber : List (List ℕ) → ℕ → ℕ → Type 0
IsNumber rows zero n = n < first_number
IsNumber rows (suc k) n =
    (first_number ≤ n) × (n < first_number + length rows)
    × IsNumber rows k (kid_at rows n 0) × IsNumber rows k (kid_at rows n 1)
    × IsNumber rows k (kid_at rows n 2) × IsNumber rows k (kid_at rows n 3)

-- the square of level k that the number stands for
unfoldable pub square_in : List (List ℕ) → ℕ → ℕ → squares.Square
square_in rows zero n = one n
square_in rows (suc k) n =
    four (square_in rows k (kid_at rows n 0)) (square_in rows k (kid_at rows n 1))
    (square_in rows k (kid_at rows n 2)) (square_in rows k (kid_at rows n 3))

-- the four name squares of level k
pub record AreNumbers (rows : List (List ℕ)) (k : ℕ) (kids : List ℕ) : Type 0 where
  pub nw : IsNumber rows k (get_or kids 0 0)
  pub ne : IsNumber rows k (get_or kids 1 0)
  pub sw : IsNumber rows k (get_or kids 2 0)
  pub se : IsNumber rows k (get_or kids 3 0)

-- the square whose quadrants of level k these numbers stand for
abbrev pub square_of : List (List ℕ) → ℕ → List ℕ → squares.Square
square_of rows k kids =
    four (square_in rows k (get_or kids 0 0)) (square_in rows k (get_or kids 1 0))
    (square_in rows k (get_or kids 2 0)) (square_in rows k (get_or kids 3 0))

abbrev pub level_of : Square → ℕ
level_of s = s.level

abbrev pub number_of : Square → ℕ
number_of s = s.number

-- the square is one of the table's
pub record IsHeld (t : Table) (s : Square) : Type 0 where
  pub numbered : IsNumber t.rows (level_of s) (number_of s)
  pub quadrants : 0 < level_of s → s.kids.now ≡ kids_at t.rows (number_of s)

-- its cells
abbrev pub cells_of : Table → Square → squares.Square
cells_of t s = square_in t.rows (level_of s) (number_of s)

-- the handle is of a square of the table, of this level and with these cells
pub record Tells (t : Table) (k : ℕ) (square : squares.Square) (s : Square) : Type 0 where
  pub held : IsHeld t s
  pub level : level_of s ≡ k
  pub cells : cells_of t s ≡ square

-- n is the number of the square whose quadrants have these numbers
pub record IsSquareOf (rows : List (List ℕ)) (kids : List ℕ) (n : ℕ) : Type 0 where
  pub above : first_number ≤ n
  pub there : n < first_number + length rows
  pub listed : kids_at rows n ≡ kids

-- the one table with more rows, or none, behind its own is the other
pub record Grows (old new : Table) : Type 0 where
  pub limit : new.limit ≡ old.limit
  pub more : List (List ℕ)
  pub rows : new.rows ≡ old.rows ++ more

-- each square of the one table is one of the other, with the same cells
pub record KeepsSquares (old new : Table) : Type 0 where
  pub limit : new.limit ≡ old.limit
  pub held : (s : Square) → IsHeld old s → IsHeld new s
  pub cells : (s : Square) → IsHeld old s → cells_of new s ≡ cells_of old s

-- each row has four quadrants, and no two rows are one
pub record AreDistinct (rows : List (List ℕ)) : Type 0 where
  pub four : (i : ℕ) → i < length rows → length (get_or rows i []) ≡ 4
  pub distinct : (i j : ℕ) → i < length rows → j < length rows →
      get_or rows i [] ≡ get_or rows j [] → i ≡ j

-- in one table numbers are equal exactly where levels and cells are
abbrev pub NumbersTellSquares : Type 0
NumbersTellSquares = (t : Table) → AreDistinct t.rows → (s1 s2 : Square) →
    IsHeld t s1 → IsHeld t s2 →
    (number_of s1 ≡ number_of s2) ↔ ((level_of s1 ≡ level_of s2) × (cells_of t s1 ≡ cells_of t s2))

-- four squares, of the table and of one level
pub record AreFour (t : Table) (level : ℕ) (quadrants : List Square) : Type 0 where
  pub held : (q : ℕ) (d : Square) → q < 4 → IsHeld t (slice_index_or quadrants q d)
  pub alike : (q : ℕ) (d : Square) → q < 4 → level_of (slice_index_or quadrants q d) ≡ level

-- the cells of the square that four make, by which is the q-th of them
abbrev pub joined : Table → (ℕ → Square) → squares.Square
joined t at = four (cells_of t (at 0)) (cells_of t (at 1)) (cells_of t (at 2)) (cells_of t (at 3))

-- in the table that came of t the square s is the one that these four make
pub record IsJoined (t : Table) (quadrants : List Square) (u : Table) (s : Square) : Type 0 where
  pub held : IsHeld u s
  pub level : (d : Square) → level_of s ≡ level_of (slice_index_or quadrants 0 d) + 1
  pub cells : (d : Square) → cells_of u s ≡ joined t (λ q. slice_index_or quadrants q d)

-- the table with one more row
abbrev pub with_row : Table → List ℕ → Table
with_row t kids = record { rows = t.rows ++ kids ∷ []; limit = t.limit; notes = t.notes }

-- the table where r is noted of the square with the number n instead
abbrev pub with_note : Table → ℕ → ℕ → Table
with_note t n r = record {
  rows = t.rows;
  limit = t.limit;
  notes = slice_set t.notes (n - first_number) r;
}

-- the table where nothing is noted
abbrev pub without_notes : Table → Table
without_notes t = record { rows = t.rows; limit = t.limit; notes = replicate t.limit 0 }

-- each state among the quadrants of the rows is below c
pub record AllStatesBelow (c : ℕ) (rows : List (List ℕ)) : Type 0 where
  pub each : (i q : ℕ) → i < length rows → q < 4 →
      get_or (get_or rows i []) q 0 < first_number → get_or (get_or rows i []) q 0 < c

-- the one table is the other, or has one more row, of these quadrants
abbrev pub GrowsBy : List ℕ → Table → Table → Type 0
GrowsBy kids old new = (new ≡ old) ⊎ (new ≡ with_row old kids)

-- no row has these quadrants
abbrev pub Lacks : List (List ℕ) → List ℕ → Type 0
Lacks rows kids = (i : ℕ) → i < length rows → get_or rows i [] ≡ kids → ⊥
