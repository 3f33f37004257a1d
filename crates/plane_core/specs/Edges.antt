-- How far the live cells of squares lie from an edge.
use Rattle.std.specs.Prelude.{◌≡◌, ℕ, ◌-◌, ◌<◌, ◌≤◌, ◌^◌, ◌==◌, ◌⊎◌, cond, List, [], ◌∷◌, ◌++◌, length, All}
use Rattle.std.specs.List.{Contains}
use Rattle.worlds.specs.Square.{cell_in}
use Rattle.plane_core.specs.declared.row.SquareRow.{SquareRow}
use Rattle.plane_core.specs.declared.edges.Edge.{Edge}
use Rattle.plane_core.specs.declared.edges.Edge.TheVariants.{Left, Top, Right, Bottom}
use Rattle.plane_core.specs.Rows.{IsNumber, square_in, row_at, kid}

abbrev pub opposite : Edge → Edge
opposite Left = Right
opposite Top = Bottom
opposite Right = Left
opposite Bottom = Top

-- the quadrants of a square on the side of the edge
abbrev pub quadrants : Edge → ℕ × ℕ
quadrants Left = (0, 2)
quadrants Top = (0, 1)
quadrants Right = (1, 3)
quadrants Bottom = (2, 3)

abbrev pub LiesAlong : Edge → ℕ → Type 0
LiesAlong e q = (q ≡ (quadrants e).0) ⊎ (q ≡ (quadrants e).1)

-- how far a cell of a square of this side lies from the edge
abbrev pub depth : Edge → ℕ → ℕ → ℕ → ℕ
depth Left side i j = i
depth Top side i j = j
depth Right side i j = side - 1 - i
depth Bottom side i j = side - 1 - j

-- the number, unless it is 0
abbrev pub if_live : ℕ → List ℕ
if_live n = cond (n == 0) [] (n ∷ [])

-- the quadrants of a row on the side of the edge that aren't empty
abbrev pub edge_kids : Edge → SquareRow → List ℕ
edge_kids e row = if_live (kid row (quadrants e).0) ++ if_live (kid row (quadrants e).1)

-- n names a square of level k that isn't empty
abbrev pub NamesLive : List SquareRow → ℕ → ℕ → Type 0
NamesLive rows k n = (0 < n) × IsNumber rows k n

-- some squares of level k, none of them empty
pub record IsBand (rows : List SquareRow) (k : ℕ) (band : List ℕ) : Type 0 where
  pub some : 0 < length band
  pub each : All (NamesLive rows k) band

-- those of the quadrants of a band on the side of the edge that aren't empty
pub record AreKids (rows : List SquareRow) (e : Edge) (band kids : List ℕ) : Type 0 where
  pub all : (m n : ℕ) → Contains band m → Contains (edge_kids e (row_at rows m)) n → Contains kids n
  pub only : (n : ℕ) → Contains kids n
      → (m : ℕ) × Contains band m × Contains (edge_kids e (row_at rows m)) n

-- some square of the band has a live cell at (i, j)
pub record HasLive (rows : List SquareRow) (k : ℕ) (band : List ℕ) (i j : ℕ) : Type 0 where
  pub n : ℕ
  pub there : Contains band n
  pub live : 0 < cell_in k (square_in rows k n) i j

-- the live cells of a band that lie nearest to the edge lie so far from it
pub record IsLeastDepth (rows : List SquareRow) (e : Edge) (k : ℕ) (band : List ℕ) (d : ℕ)
    : Type 0 where
  pub least : (i j : ℕ) → i < 2 ^ k → j < 2 ^ k → HasLive rows k band i j → d ≤ depth e (2 ^ k) i j
  pub touched : (i : ℕ) × (j : ℕ) × (i < 2 ^ k) × (j < 2 ^ k) × HasLive rows k band i j
      × (depth e (2 ^ k) i j ≡ d)
