-- Lists of square rows, the squares that they stand for, and the one list that a world is written
-- as.
use Rattle.std.specs.Prelude.{◌≡◌, ℕ, zero, suc, ◌+◌, ◌-◌, ◌<◌, ◌≤◌, ◌^◌, Bool, true, false, ◌&&◌, ◌==◌, nat_eq, List, [], ◌∷◌, ◌++◌, length, take, get_or, ℤ, pos, neg_ℤ}
use Rattle.std.specs.List.{list_any, position_or_len}
use Rattle.std.specs.Cmp.Lexicographic.{pointwise}
use Rattle.worlds.specs.World.{World, cell, blank}
use Rattle.plane_core.specs.declared.row.SquareRow.{SquareRow}
use Rattle.worlds.specs.Square.{Square, one, four, empty_square, put_square, IsIn}

abbrev pub no_row : SquareRow
no_row = record { level = 0; kids = [] }

-- the row with this number; numbers count from 1
abbrev pub row_at : List SquareRow → ℕ → SquareRow
row_at rows n = get_or rows (n - 1) no_row

-- the q-th of the kids nw, ne, sw and se
abbrev pub kid : SquareRow → ℕ → ℕ
kid row q = get_or row.kids q 0

-- n names a square of level k: at level 0 it is a state, and above 0 or the number of a row of the
-- level
unfoldable pub IsNumber : List SquareRow → ℕ → ℕ → Type 0
IsNumber rows zero n = n < 256
IsNumber rows (suc k) n = 0 < n → (n ≤ length rows) × ((row_at rows n).level ≡ suc k)

-- the kids of a row name squares of one level less
abbrev pub AreKidsOf : List SquareRow → SquareRow → Type 0
AreKidsOf rows row = (q : ℕ) → q < 4 → IsNumber rows (row.level - 1) (kid row q)

-- a row that may stand after these
pub record IsRow (rows : List SquareRow) (row : SquareRow) : Type 0 where
  pub low : 1 ≤ row.level
  pub high : row.level ≤ 62
  pub kids : AreKidsOf rows row

-- each row may stand after those before it
abbrev pub AreRows : List SquareRow → Type 0
AreRows rows = (i : ℕ) → i < length rows → IsRow (take i rows) (get_or rows i no_row)

-- the square of level k that n names
unfoldable pub square_in : List SquareRow → ℕ → ℕ → Square
square_in rows zero n = one n
square_in rows (suc k) zero = empty_square (suc k)
square_in rows (suc k) (suc i) =
    let row = get_or rows i no_row in
    four (square_in rows k (kid row 0)) (square_in rows k (kid row 1))
    (square_in rows k (kid row 2)) (square_in rows k (kid row 3))

-- the level of the root, which is the last row; with no rows the root is an empty square of level 1
unfoldable pub root_level : List SquareRow → ℕ
root_level [] = 1
root_level (row ∷ rows) = (get_or (row ∷ rows) (length rows) no_row).level

-- the root
abbrev pub root_of : List SquareRow → Square
root_of rows = square_in rows (root_level rows) (length rows)

-- the coordinate of the upper left cell of a root of level k
abbrev pub edge_of : ℕ → ℤ
edge_of k = neg_ℤ (pos (2 ^ (k - 1)))

-- the world that rows stand for: that of the root, with the cell (0, 0) in its middle, and 0
-- elsewhere
unfoldable pub world_of_rows : List SquareRow → World
world_of_rows rows =
    put_square (root_level rows) (root_of rows) (edge_of (root_level rows))
    (edge_of (root_level rows)) blank

-- whether two lists of kids are one
abbrev pub same_kids : List ℕ → List ℕ → Bool
same_kids = pointwise nat_eq

-- whether two rows are one
abbrev pub same_row : SquareRow → SquareRow → Bool
same_row a b = (a.level == b.level) && same_kids a.kids b.kids

-- rows, and the number that a square has among them
pub record Numbered : Type 0 where
  pub rows : List SquareRow
  pub number : ℕ

-- by whether the row is empty, and whether it is there as the n-th
abbrev pub numbered : Bool → Bool → SquareRow → List SquareRow → ℕ → Numbered
numbered true there row rows n = record { rows = rows; number = 0 }
numbered false true row rows n = record { rows = rows; number = n }
numbered false false row rows n = record { rows = rows ++ row ∷ []; number = n }

-- the number of a row among others: 0 if it is empty, that of its equal if there is one, else the
-- next, and then it is the last
unfoldable pub number_row : SquareRow → List SquareRow → Numbered
number_row row rows =
    numbered (same_kids row.kids (0 ∷ 0 ∷ 0 ∷ 0 ∷ [])) (list_any (same_row row) rows) row rows
    (position_or_len (same_row row) rows + 1)

-- the number of a square of level k among rows, after the walk nw, ne, sw, se has completed it
unfoldable pub number_square : ℕ → Square → List SquareRow → Numbered
number_square k (one s) rows = record { rows = rows; number = s }
number_square zero (four nw ne sw se) rows = record { rows = rows; number = 0 }
number_square (suc k) (four nw ne sw se) rows =
    let a = number_square k nw rows in
    let b = number_square k ne a.rows in
    let c = number_square k sw b.rows in
    let d = number_square k se c.rows in
    number_row (record { level = suc k; kids = a.number ∷ b.number ∷ c.number ∷ d.number ∷ [] })
    d.rows

-- each live cell lies in the square of a root of level k
abbrev pub Fits : ℕ → World → Type 0
Fits k w = (x y : ℤ) → 0 < cell w x y → IsIn (2 ^ k) (edge_of k) (edge_of k) x y

-- k is the least root level of at least 1 that holds the live cells
pub record IsLeastLevel (k : ℕ) (w : World) : Type 0 where
  pub holds : Fits k w
  pub least : (j : ℕ) → 1 ≤ j → Fits j w → k ≤ j

-- the rows that the walk of a square of level k completes, each once
abbrev pub completed : ℕ → Square → List SquareRow
completed k t = (number_square k t []).rows

-- the row of the empty square of level 1
abbrev pub empty_row : SquareRow
empty_row = record { level = 1; kids = 0 ∷ 0 ∷ 0 ∷ 0 ∷ [] }

-- rows as they are written: where there is none, that of the empty square
abbrev pub written : List SquareRow → List SquareRow
written [] = empty_row ∷ []
written (row ∷ rows) = row ∷ rows

-- the rows of their world as a plane keeps them: each distinct square that isn't empty once, in the
-- order of the walk from the least root that holds the live cells
pub record AreKept (rows : List SquareRow) : Type 0 where
  pub valid : AreRows rows
  pub walked : completed (root_level rows) (root_of rows) ≡ rows
  pub least : IsLeastLevel (root_level rows) (world_of_rows rows)

-- the rows of their world as it is written, which are those of the empty square where no cell is
-- live
pub record AreCanonical (rows : List SquareRow) : Type 0 where
  pub valid : AreRows rows
  pub walked : written (completed (root_level rows) (root_of rows)) ≡ rows
  pub least : IsLeastLevel (root_level rows) (world_of_rows rows)

-- these rows are those of the world
pub record AreSquaresOf (w : World) (rows : List SquareRow) : Type 0 where
  pub canonical : AreCanonical rows
  pub world : world_of_rows rows ≡ w
