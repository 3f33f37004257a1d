-- Squares that a line says by their quadrants.
use Rattle.std.specs.Prelude.{ℕ, nat_lt, if◌then◌else◌, List, Option, Some, None}
use Rattle.macrocell_lines.specs.declared.node.Node.{Node}
use Rattle.macrocell_lines.specs.declared.node.Node.TheVariants.{Cells, Square}
use Rattle.macrocell_lines.specs.declared.numbers.FiveNumbers.{FiveNumbers}
use Rattle.macrocell_lines.specs.Nodes.{is_child}
use Rattle.macrocell_lines.specs.Pieces.{◌>>=◌}

-- a number as a state
abbrev pub state_of : ℕ → Option ℕ
state_of n = if nat_lt n 256 then Some n else None

-- the square of level 1 whose quadrants are these states
abbrev pub leaf_of : FiveNumbers → Option Node
leaf_of said = do
  nw ← state_of said.nw
  ne ← state_of said.ne
  sw ← state_of said.sw
  se ← state_of said.se
  Some (Cells nw ne sw se)

-- a number as that of a quadrant of a square of this level
abbrev pub child_of : List Node → ℕ → ℕ → Option ℕ
child_of nodes level n = if is_child nodes level n then Some n else None

-- the square of a level whose quadrants are these nodes
abbrev pub square_of : List Node → ℕ → FiveNumbers → Option Node
square_of nodes level said = do
  nw ← child_of nodes level said.nw
  ne ← child_of nodes level said.ne
  sw ← child_of nodes level said.sw
  se ← child_of nodes level said.se
  Some (Square level nw ne sw se)
