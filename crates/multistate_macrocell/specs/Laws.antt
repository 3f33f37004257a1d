-- What the definitions are meant to say: each statement is proved by a function of the same name.
use Rattle.std.specs.Prelude.{◌≡◌, ℕ, ◌-◌, ◌<◌, ◌≤◌, ◌^◌, List, length, slice_get, Ok, Some, ℤ, pos, ◌+ℤ◌}
use Rattle.text_lines.specs.RuleNames.{IsName}
use Rattle.macrocell_lines.specs.declared.node.Node.{Node}
use Rattle.macrocell_lines.specs.Nodes.{AreNodes, level_of}
use Rattle.worlds.specs.World.{World, cell}
use Rattle.worlds.specs.Range.{AllBelow, HasMargin}
use Rattle.plane_core.specs.Rows.{edge_of}
use Rattle.plane_core.specs.WorldRows.{rows_of}
use Rattle.worlds.specs.Square.{IsIn, Square, cell_in}
use Rattle.multistate_macrocell.specs.Pattern.{pattern_of}
use Rattle.multistate_macrocell.specs.PatternText.{macrocell_text}
use Rattle.multistate_macrocell.specs.Quadtree.{square_named, world_of_nodes}

-- what is written of a world in the range of planes, with states below 256 and at most 16,777,216
-- distinct squares, means the world, the name and the generation that were written
abbrev pub WrittenMeansTheSame : Type 0
WrittenMeansTheSame =
    (w : World) (name : List ℕ) (generation : ℕ) → HasMargin 0 w → AllBelow 256 w
    → length (rows_of w) ≤ 16777216 → IsName name → generation < 2 ^ 64
    → pattern_of (macrocell_text w name generation)
    ≡ Ok (record { plane = w; rule_name = name; generation = generation })

-- each cell of a world is that of the square of level k in the middle of which the cell (0, 0)
-- lies, as far from its edges, and outside it no cell is live
pub record ShowsRoot (w : World) (k : ℕ) (root : Square) : Type 0 where
  pub inside : (i j : ℕ) → i < 2 ^ k → j < 2 ^ k
      → cell w (edge_of k +ℤ pos i) (edge_of k +ℤ pos j) ≡ cell_in k root i j
  pub outside : (x y : ℤ) → (IsIn (2 ^ k) (edge_of k) (edge_of k) x y → ⊥) → cell w x y ≡ 0

-- the world of nodes shows the square of the last
abbrev pub NodesShowTheirRoot : Type 0
NodesShowTheirRoot =
    (nodes : List Node) (root : Node) → AreNodes nodes
    → slice_get nodes (length nodes - 1) ≡ Some root
    → ShowsRoot (world_of_nodes nodes) (level_of root)
    (square_named nodes (level_of root) (length nodes))
