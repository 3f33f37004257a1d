-- The text of a quadtree.
use Rattle.std.specs.Prelude.{ℕ, zero, suc, ◌/◌, ◌%◌, ◌==◌, if◌then◌else◌, List, [], ◌∷◌, ◌++◌, map, codes, decimal}
use Rattle.std.specs.List.{flat_map}
pub use Rattle.text_lines.specs.LineEnds.{text_of_lines}
pub use Rattle.text_lines.specs.Numbers.{numbers_line}
use Rattle.macrocell_lines.specs.declared.node.Node.{Node}
use Rattle.macrocell_lines.specs.declared.node.Node.TheVariants.{Cells, Square, Bitmap}

-- so many bits of a row as cells, from the lowest on
unfoldable pub row_text : ℕ → ℕ → List ℕ
row_text zero row = []
row_text (suc width) row = (if row % 2 == 1 then 42 else 46) ∷ row_text width (row / 2)

-- the rows of a bitmap, each with its end
abbrev pub rows_text : List ℕ → List ℕ
rows_text rows = flat_map (λ row. row_text 8 row ++ 36 ∷ []) rows

-- the line of a node: its level and its quadrants, or its cells
abbrev pub node_line : Node → List ℕ
node_line (Cells nw ne sw se) = numbers_line (1 ∷ nw ∷ ne ∷ sw ∷ se ∷ [])
node_line (Square level nw ne sw se) = numbers_line (level ∷ nw ∷ ne ∷ sw ∷ se ∷ [])
node_line (Bitmap bitmap) = rows_text bitmap.rows

-- the lines of a text: the first, those of the rule's name and the generation, and each node's
abbrev pub written_lines : List ℕ → ℕ → List Node → List (List ℕ)
written_lines name generation nodes =
    codes "[M2] (experiment desk)" ∷ (codes "#R " ++ name) ∷ (codes "#G " ++ decimal generation)
    ∷ map node_line nodes

-- the text of a rule's name, a generation and the nodes in order
abbrev pub written_text : List ℕ → ℕ → List Node → List ℕ
written_text name generation nodes = text_of_lines (written_lines name generation nodes)
