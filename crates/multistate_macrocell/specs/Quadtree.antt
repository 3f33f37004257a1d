-- The squares that the nodes of a quadtree stand for, and the world of its root.
use Rattle.std.specs.Prelude.{ℕ, zero, suc, ◌+◌, ◌-◌, ◌^◌, if◌then◌else◌, List, length, slice_get}
use Rattle.std.specs.Option.{option_map_or}
use Rattle.macrocell_lines.specs.declared.bitmap.Bitmap.{Bitmap}
use Rattle.macrocell_lines.specs.declared.node.Node.{Node}
use Rattle.macrocell_lines.specs.declared.node.Node.TheVariants.{Cells, Square as Quartered, Bitmap as Drawn}
use Rattle.macrocell_lines.specs.Bitmaps.{is_live}
use Rattle.macrocell_lines.specs.Nodes.{level_of}
use Rattle.worlds.specs.World.{World, blank}
use Rattle.plane_core.specs.Rows.{edge_of}
use Rattle.worlds.specs.Square.{Square, one, four, empty_square, put_square}

-- the square of level k of a bitmap's cells, of which the upper left one is at the column x and the
-- row y
unfoldable pub drawn : Bitmap → ℕ → ℕ → ℕ → Square
drawn bitmap zero x y = one (if is_live bitmap x y then 1 else 0)
drawn bitmap (suc k) x y =
    let h = 2 ^ k in
    four (drawn bitmap k x y) (drawn bitmap k (x + h) y) (drawn bitmap k x (y + h))
    (drawn bitmap k (x + h) (y + h))

-- the square of a node, by the squares that the numbers of its quadrants name
unfoldable pub square_of : (ℕ → Square) → Node → Square
square_of named (Cells nw ne sw se) = four (one nw) (one ne) (one sw) (one se)
square_of named (Quartered level nw ne sw se) = four (named nw) (named ne) (named sw) (named se)
square_of named (Drawn bitmap) = drawn bitmap 3 0 0

-- the square of level k that a number names: 0 an empty one, and else that of the node with this
-- number, counted from 1
unfoldable pub square_named : List Node → ℕ → ℕ → Square
square_named nodes zero n = empty_square 0
square_named nodes (suc k) zero = empty_square (suc k)
square_named nodes (suc k) (suc i) =
    option_map_or (square_of (square_named nodes k)) (slice_get nodes i) (empty_square (suc k))

-- the world with the square of level k that a number names, with the cell (0, 0) in its middle, and
-- 0 elsewhere
abbrev pub world_of_root : List Node → ℕ → ℕ → World
world_of_root nodes k n = put_square k (square_named nodes k n) (edge_of k) (edge_of k) blank

-- the world of some nodes, of which the last is the root; without nodes no cell is live
unfoldable pub world_of_nodes : List Node → World
world_of_nodes nodes =
    option_map_or (λ root. world_of_root nodes (level_of root) (length nodes))
    (slice_get nodes (length nodes - 1)) blank
