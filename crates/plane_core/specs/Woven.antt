-- Levels of squares that are woven from strips of the level below.
use Rattle.std.specs.Prelude.{◌≡◌, ℕ, zero, suc, ◌+◌, ◌-◌, ◌*◌, ◌<◌, ◌≤◌, ◌^◌, List, [], ◌∷◌, length, ℤ, pos, neg_ℤ, ◌+ℤ◌}
use Rattle.worlds.specs.World.{World, blank, cell}
use Rattle.worlds.specs.Square.{square_at}
use Rattle.plane_core.specs.declared.row.SquareRow.{SquareRow}
use Rattle.plane_core.specs.declared.span.Span.{Span}
use Rattle.plane_core.specs.declared.strip.Strip.{Strip}
use Rattle.plane_core.specs.Rows.{IsNumber, AreRows, square_in, edge_of, root_level, world_of_rows}
use Rattle.plane_core.specs.Spans.{drawn}
use Rattle.plane_core.specs.Laid.{Keeps, IsMade, square_of}
use Rattle.plane_core.specs.Strips.{number_at, AreBefore, IsEarlier}

-- the numbers nw, ne, sw and se of the quadrants of the square at (x, y), of two rows
abbrev pub sides_at : List Strip → List Strip → ℕ → ℕ → List ℕ
sides_at north south x y =
    number_at north (2 * x) (2 * y) ∷ number_at north (2 * x + 1) (2 * y)
    ∷ number_at south (2 * x) (2 * y + 1) ∷ number_at south (2 * x + 1) (2 * y + 1) ∷ []

-- the same of one level
abbrev pub kids_at : List Strip → ℕ → ℕ → List ℕ
kids_at strips = sides_at strips strips

-- the squares from (x, y) on and before the column `end` have these kids
pub record IsPair (north south : List Strip) (x y : ℕ) (kids : List ℕ) (end : ℕ) : Type 0 where
  pub more : x < end
  pub far : end ≤ 2 ^ 31
  pub same : (i : ℕ) → x ≤ i → i < end → sides_at north south i y ≡ kids

-- each number of the strips names a square of level k
abbrev pub AreNumbers : List SquareRow → ℕ → List Strip → Type 0
AreNumbers rows k strips = (x y : ℕ) → IsNumber rows k (number_at strips x y)

-- the squares before (x, y) are made, of the squares of one level less
pub record AreMadeTo (old new : List SquareRow) (level : ℕ) (strips made : List Strip) (x y : ℕ)
    : Type 0 where
  pub keeps : Keeps old new
  pub each : (i j : ℕ) → IsEarlier i j x y
      → IsMade old new level (number_at made i j) (square_of old (level - 1) (kids_at strips i j))
  pub before : AreBefore made x y

-- all are
pub record AreMade (old new : List SquareRow) (level : ℕ) (strips made : List Strip) : Type 0 where
  pub keeps : Keeps old new
  pub each : (i j : ℕ)
      → IsMade old new level (number_at made i j) (square_of old (level - 1) (kids_at strips i j))

-- how many cells stand before a column of level k
unfoldable pub start : ℕ → ℕ → ℕ
start zero x = x
start (suc k) x = start k (2 * x)

-- the first of the cells of that column
abbrev pub cell_at : ℕ → ℕ → ℤ
cell_at k x = neg_ℤ (pos (2 ^ 31)) +ℤ pos (start k x)

-- the strips are the cells that spans draw
pub record AreStripsOf (spans : List Span) (strips : List Strip) : Type 0 where
  pub small : (x y : ℕ) → number_at strips x y < 256
  pub cells : (x y : ℕ)
      → cell (drawn spans blank) (cell_at 0 x) (cell_at 0 y) ≡ number_at strips x y

-- the strips name the squares of level k of the world
pub record AreWoven (rows : List SquareRow) (k : ℕ) (strips : List Strip) (w : World)
    : Type 0 where
  pub valid : AreRows rows
  pub few : length rows < 2 ^ 32
  pub numbers : AreNumbers rows k strips
  pub squares : (x y : ℕ)
      → square_in rows k (number_at strips x y) ≡ square_at w k (cell_at k x) (cell_at k y)

-- the strip has the cells of the span, and its state as their number
pub record IsStripOf (span : Span) (s : Strip) : Type 0 where
  pub x : pos s.x ≡ span.x +ℤ pos (2 ^ 31)
  pub end : pos s.end ≡ (span.x +ℤ pos span.count) +ℤ pos (2 ^ 31)
  pub y : pos s.y ≡ span.y +ℤ pos (2 ^ 31)
  pub number : s.number ≡ span.state

-- the root is the square of the world around the cell (0, 0)
pub record HasSquare (rows : List SquareRow) (k : ℕ) (w : World) : Type 0 where
  pub valid : AreRows rows
  pub few : length rows < 2 ^ 32
  pub level : root_level rows ≡ k
  pub square : square_in rows k (length rows) ≡ square_at w k (edge_of k) (edge_of k)

-- whichever world the strips name the squares of, the new root is its square
abbrev pub IsRootAround : List SquareRow → List SquareRow → ℕ → List Strip → Type 0
IsRootAround old new k strips = (w : World) → AreWoven old k strips w → HasSquare new (k + 1) w

-- the rows stand for the cells of the spans alone
pub record AreRowsOf (spans : List Span) (rows : List SquareRow) : Type 0 where
  pub valid : AreRows rows
  pub few : length rows < 2 ^ 32
  pub world : world_of_rows rows ≡ drawn spans blank
