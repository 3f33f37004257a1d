-- The text of a pattern as the quadtree of its distinct squares.
use Rattle.std.specs.Prelude.{ℕ, ◌==◌, if◌then◌else◌, List, map}
use Rattle.macrocell_lines.specs.declared.node.Node.{Node}
use Rattle.macrocell_lines.specs.declared.node.Node.TheVariants.{Cells, Square as Quartered}
use Rattle.macrocell_lines.specs.WrittenText.{written_text}
use Rattle.worlds.specs.World.{World}
use Rattle.plane_core.specs.declared.row.SquareRow.{SquareRow}
use Rattle.plane_core.specs.Rows.{kid}
use Rattle.plane_core.specs.WorldRows.{rows_of}

-- the node that says a row
abbrev pub node_of : SquareRow → Node
node_of row =
    if row.level == 1 then Cells (kid row 0) (kid row 1) (kid row 2) (kid row 3) else
    Quartered row.level (kid row 0) (kid row 1) (kid row 2) (kid row 3)

-- the nodes that say rows
abbrev pub nodes_of : List SquareRow → List Node
nodes_of rows = map node_of rows

-- the text of a world's pattern, with the rule's name and the generation
abbrev pub macrocell_text : World → List ℕ → ℕ → List ℕ
macrocell_text w name generation = written_text name generation (nodes_of (rows_of w))
