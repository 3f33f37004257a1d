-- Rows that come behind others, and spans that are drawn on the squares of rows.
use Rattle.std.specs.Prelude.{◌≡◌, ℕ, suc, ◌-◌, ◌<◌, ◌≤◌, ◌^◌, List, ◌++◌, length, get_or, All, ℤ, pos, ◌+ℤ◌, ◌≤ℤ◌, ◌<ℤ◌}
use Rattle.std.specs.List.{flat_map}
use Rattle.std.specs.Borrow.{Bor}
use Rattle.worlds.specs.World.{World, cell}
use Rattle.worlds.specs.Square.{Square, four, IsIn}
use Rattle.plane_core.specs.declared.row.SquareRow.{SquareRow}
use Rattle.plane_core.specs.declared.part.Part.{Part}
use Rattle.plane_core.specs.declared.span.Span.{Span}
use Rattle.plane_core.specs.Rows.{IsNumber, AreRows, row_at, square_in, root_level, world_of_rows}
use Rattle.plane_core.specs.Spans.{CanBeDrawn, drawn}
use Rattle.plane_core.specs.Part.{Covers, IsRoot, Shows, east, south}

-- the square whose quadrants these numbers name
abbrev pub square_of : List SquareRow → ℕ → List ℕ → Square
square_of rows k kids =
    four (square_in rows k (get_or kids 0 0)) (square_in rows k (get_or kids 1 0))
    (square_in rows k (get_or kids 2 0)) (square_in rows k (get_or kids 3 0))

-- the kids name the quadrants, of level k, of the square that n names
pub record AreQuadrants (rows : List SquareRow) (k n : ℕ) (kids : List ℕ) : Type 0 where
  pub numbers : (q : ℕ) → q < 4 → IsNumber rows k (get_or kids q 0)
  pub square : square_in rows (suc k) n ≡ square_of rows k kids

-- what named a square among the old rows names the same one among the new
pub record Keeps (old new : List SquareRow) : Type 0 where
  pub valid : AreRows new
  pub few : length new < 2 ^ 32
  pub longer : length old ≤ length new
  pub number : (k n : ℕ) → IsNumber old k n → IsNumber new k n
  pub square : (k n : ℕ) → IsNumber old k n → square_in new k n ≡ square_in old k n

-- the last of the new rows is n, and names the square s of level k
pub record IsAdded (old new : List SquareRow) (k n : ℕ) (s : Square) : Type 0 where
  pub keeps : Keeps old new
  pub number : IsNumber new k n
  pub square : square_in new k n ≡ s
  pub last : n ≡ length new
  pub some : 0 < n

-- the new rows have a root of one level more, of the same world
pub record IsRaised (old new : List SquareRow) : Type 0 where
  pub valid : AreRows new
  pub few : length new < 2 ^ 32
  pub level : root_level new ≡ suc (root_level old)
  pub world : world_of_rows new ≡ world_of_rows old

-- no cell of that square is live
abbrev pub IsClear : ℕ → ℤ → ℤ → World → Type 0
IsClear side left top w = (x y : ℤ) → IsIn side left top x y → cell w x y ≡ 0

-- the part of the quadrant q that n names
abbrev pub quadrant_of : Part → ℕ → ℕ → Part
quadrant_of p q n =
    record {
      level = p.level - 1;
      number = n;
      corner =
          record {
            x = p.corner.x +ℤ pos (east (2 ^ (p.level - 1)) q);
            y = p.corner.y +ℤ pos (south (2 ^ (p.level - 1)) q);
          };
    }

-- the place of p with another number
abbrev pub renumbered : Part → ℕ → Part
renumbered p n = record { level = p.level; number = n; corner = p.corner }

-- the square holds a cell of the span
pub record Touches (p : Part) (s : Span) : Type 0 where
  pub top : p.corner.y ≤ℤ s.y
  pub bottom : s.y <ℤ (p.corner.y +ℤ pos (2 ^ p.level))
  pub left : s.x <ℤ (p.corner.x +ℤ pos (2 ^ p.level))
  pub right : p.corner.x <ℤ (s.x +ℤ pos s.count)

-- all cells of the span lie in the square
pub record LiesIn (p : Part) (s : Span) : Type 0 where
  pub top : p.corner.y ≤ℤ s.y
  pub bottom : s.y <ℤ (p.corner.y +ℤ pos (2 ^ p.level))
  pub left : p.corner.x ≤ℤ s.x
  pub right : (s.x +ℤ pos s.count) ≤ℤ (p.corner.x +ℤ pos (2 ^ p.level))

-- those of the spans that touch the square: in it they do to each world what all of them do
pub record AreThoseIn (p : Part) (spans here : List Span) : Type 0 where
  pub range : All CanBeDrawn here
  pub same : (w : World) (x y : ℤ) → Covers p x y
      → cell (drawn here w) x y ≡ cell (drawn spans w) x y

-- the spans of runs, one run after another
abbrev pub spans_of_runs : List (Bor (List Span)) → List Span
spans_of_runs = flat_map (λ run. run.now)

-- those of a run that touch the square come behind those of the spans before it
abbrev pub AddsTouching : Part → List Span → List (Bor (List Span)) → List (Bor (List Span)) → Type 0
AddsTouching p run old new =
    (before : List Span) → AreThoseIn p before (spans_of_runs old)
    → AreThoseIn p (before ++ run) (spans_of_runs new)

-- n names the square s of level k among the new rows
pub record IsMade (old new : List SquareRow) (k n : ℕ) (s : Square) : Type 0 where
  pub keeps : Keeps old new
  pub number : IsNumber new k n
  pub square : square_in new k n ≡ s

-- n is the number of that row
pub record IsNamed (rows : List SquareRow) (n : ℕ) (row : SquareRow) : Type 0 where
  pub some : 0 < n
  pub there : n ≤ length rows
  pub same : row_at rows n ≡ row

-- n names the square that p becomes when the spans are drawn on it
pub record IsLaid (old new : List SquareRow) (p : Part) (n : ℕ) (spans : List Span)
    : Type 0 where
  pub keeps : Keeps old new
  pub number : IsNumber new p.level n
  pub shows : (w : World) → Shows w old p → Shows (drawn spans w) new (renumbered p n)

-- the states of the cells of a square of level 1 in a world
abbrev pub AreStatesOf : World → Part → List ℕ → Type 0
AreStatesOf w p states =
    (q : ℕ) → q < 4
    → cell w (quadrant_of p q 0).corner.x (quadrant_of p q 0).corner.y ≡ get_or states q 0

-- the states of the cells of a square of level 1, and those after the spans are drawn on it
pub record AreLaidStates (p : Part) (spans : List Span) (old new : List ℕ) : Type 0 where
  pub small : (q : ℕ) → q < 4 → get_or new q 0 < 256
  pub each : (w : World) → AreStatesOf w p old → AreStatesOf (drawn spans w) p new

-- each of the spans lies in the square of the root
abbrev pub RootHolds : List SquareRow → List Span → Type 0
RootHolds rows spans = (p : Part) → IsRoot rows p → All (LiesIn p) spans
