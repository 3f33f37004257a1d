-- What the definitions are meant to say: each statement is proved by a function of the same name.
use Rattle.std.specs.Prelude.{◌≡◌, ℕ, ◌<◌, ◌^◌, ◌==◌, List, [], slice_index, slice_index_or, Some, Ok}
use Rattle.text_lines.specs.RuleNames.{IsName}
use Rattle.macrocell_lines.specs.declared.bitmap.Bitmap.{Bitmap}
use Rattle.macrocell_lines.specs.declared.node.Node.{Node}
use Rattle.macrocell_lines.specs.Bitmaps.{bitmap_of, is_live}
use Rattle.macrocell_lines.specs.MacrocellText.{macrocell_of}
use Rattle.macrocell_lines.specs.Nodes.{AreNodes}
use Rattle.macrocell_lines.specs.Pieces.{pieces}
use Rattle.macrocell_lines.specs.WrittenText.{written_text}

-- what is written says the name, the generation and the nodes that were written
abbrev pub WrittenSaysTheSame : Type 0
WrittenSaysTheSame =
    (name : List ℕ) (generation : ℕ) (nodes : List Node) → IsName name → generation < 2 ^ 64
    → AreNodes nodes
    → macrocell_of (written_text name generation nodes)
    ≡ Ok (record { heading = record { rule_name = name; generation = generation }; nodes = nodes })

-- the cell at a column and a row of a bitmap is live exactly where the row of its line, of those
-- that $ parts, has a * at that column
abbrev pub BitmapsShowTheirLines : Type 0
BitmapsShowTheirLines = (line : List ℕ) (bitmap : Bitmap) (x y : ℕ) → bitmap_of line ≡ Some bitmap
    → is_live bitmap x y ≡ (slice_index (slice_index_or (pieces 36 line) y []) x == 42)
