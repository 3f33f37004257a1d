-- Squares whose live cells all lie in the square of half the side in the middle.
use Rattle.std.specs.Prelude.{◌≡◌, ◌<◌, ◌^◌, ℕ, suc, cond, ◌==◌, Bool, ◌||◌, ◌&&◌, List, [], ◌∷◌, ◌++◌, length, get_or}
use Rattle.worlds.specs.Square.{Square, four, empty_square}
use Rattle.plane_core.specs.declared.row.SquareRow.{SquareRow}
use Rattle.plane_core.specs.Rows.{IsNumber, AreRows, IsLeastLevel, square_in, root_level, world_of_rows}

-- the square of level k + 1 with one quadrant, of these four, and else empty
abbrev pub cornered : ℕ → ℕ → Square → Square
cornered k corner s =
    four (cond (corner == 0) s (empty_square k)) (cond (corner == 1) s (empty_square k))
    (cond (corner == 2) s (empty_square k)) (cond (corner == 3) s (empty_square k))

-- the square of level k + 2 in whose middle these four squares of level k meet, and else empty
abbrev pub centred : ℕ → Square → Square → Square → Square → Square
centred k nw ne sw se = four (cornered k 3 nw) (cornered k 2 ne) (cornered k 1 sw) (cornered k 0 se)

-- whether a kid is 0, or stands at the corner
abbrev pub is_passed : ℕ → ℕ → ℕ → Bool
is_passed corner place kid = (corner == place) || (kid == 0)

-- whether each of the kids but that at the corner is 0
abbrev pub is_alone : ℕ → List ℕ → Bool
is_alone corner kids =
    is_passed corner 0 (get_or kids 0 0)
    && (is_passed corner 1 (get_or kids 1 0)
    && (is_passed corner 2 (get_or kids 2 0) && is_passed corner 3 (get_or kids 3 0)))

-- no number above 0 names an empty square
abbrev pub NoneEmpty : List SquareRow → Type 0
NoneEmpty rows = (k n : ℕ) → IsNumber rows k n → square_in rows k n ≡ empty_square k → n ≡ 0

-- rows none of which is of an empty square
pub record AreFilled (rows : List SquareRow) : Type 0 where
  pub valid : AreRows rows
  pub none_empty : NoneEmpty rows

-- the square of level k + 1 that a number names has live cells in this quadrant alone, and inner
-- names that quadrant
pub record IsCorner (rows : List SquareRow) (k number corner inner : ℕ) : Type 0 where
  pub names : IsNumber rows k inner
  pub square : square_in rows (suc k) number ≡ cornered k corner (square_in rows k inner)

-- the row of a smaller root of the same world
pub record IsCentre (rows : List SquareRow) (row : SquareRow) : Type 0 where
  pub filled : AreFilled (rows ++ row ∷ [])
  pub level : suc row.level ≡ root_level rows
  pub root : root_level (rows ++ row ∷ []) ≡ row.level
  pub world : world_of_rows (rows ++ row ∷ []) ≡ world_of_rows rows

-- the new rows have the least root that holds the live cells, of the same world
pub record AreCentred (old new : List SquareRow) : Type 0 where
  pub valid : AreRows new
  pub few : length new < 2 ^ 32
  pub world : world_of_rows new ≡ world_of_rows old
  pub least : IsLeastLevel (root_level new) (world_of_rows new)
