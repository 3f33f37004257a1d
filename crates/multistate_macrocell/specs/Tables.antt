-- What nodes become: rows of squares, and the number of the row of each node.
use Rattle.std.specs.Prelude.{◌≡◌, ℕ, ◌-◌, ◌<◌, ◌≤◌, List, ◌++◌, length, slice_index}
use Rattle.macrocell_lines.specs.declared.node.Node.{Node}
use Rattle.macrocell_lines.specs.declared.node.Node.TheVariants.{Cells, Square as Quartered, Bitmap as Drawn}
use Rattle.macrocell_lines.specs.Nodes.{AreStates, level_of}
use Rattle.plane_core.specs.declared.row.SquareRow.{SquareRow}
use Rattle.plane_core.specs.Rows.{AreRows, IsNumber, kid, root_level, square_in}
use Rattle.worlds.specs.Square.{Square, four}
use Rattle.multistate_macrocell.specs.Quadtree.{square_of}

-- rows that grew, and in which n now names the square of level k, above level 0 as that of the last
-- row
pub record Adds (old new : List SquareRow) (k n : ℕ) (square : Square) : Type 0 where
  pub more : List SquareRow
  pub grown : new ≡ old ++ more
  pub valid : AreRows new
  pub number : IsNumber new k n
  pub names : square_in new k n ≡ square
  pub last : 0 < k → n ≡ length new
  pub root : 0 < k → root_level new ≡ k

-- the number of the row of the node with this number
abbrev pub row_number : List ℕ → ℕ → ℕ
row_number numbers n = slice_index numbers n

-- the node with this number has a row, which is one of level k
pub record IsKnown (rows : List SquareRow) (numbers : List ℕ) (k n : ℕ) : Type 0 where
  pub there : n < length numbers
  pub number : IsNumber rows k (row_number numbers n)

-- the quadrants of a square of a level are known
pub record AreKnown (rows : List SquareRow) (numbers : List ℕ) (level nw ne sw se : ℕ)
    : Type 0 where
  pub low : 2 ≤ level
  pub high : level ≤ 62
  pub nw_known : IsKnown rows numbers (level - 1) nw
  pub ne_known : IsKnown rows numbers (level - 1) ne
  pub sw_known : IsKnown rows numbers (level - 1) sw
  pub se_known : IsKnown rows numbers (level - 1) se

-- a node may become a row behind these
abbrev pub CanFollow : List SquareRow → List ℕ → Node → Type 0
CanFollow rows numbers (Cells nw ne sw se) = AreStates nw ne sw se
CanFollow rows numbers (Quartered level nw ne sw se) = AreKnown rows numbers level nw ne sw se
CanFollow rows numbers (Drawn bitmap) = Unit {0}

-- the square of a node, whose quadrants are those of rows
abbrev pub square_by : List SquareRow → List ℕ → Node → Square
square_by rows numbers node =
    square_of (λ n. square_in rows (level_of node - 1) (row_number numbers n)) node

-- the square of a row, whose quadrants are those of rows
abbrev pub square_of_row : List SquareRow → SquareRow → Square
square_of_row rows row =
    let named = λ (q : ℕ). square_in rows (row.level - 1) (kid row q) in
    four (named 0) (named 1) (named 2) (named 3)
