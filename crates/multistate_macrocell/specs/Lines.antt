-- The pieces of a text as they are written.
use Rattle.std.specs.Prelude.{ℕ, List, [], ◌∷◌, ◌++◌, map, codes, decimal}
use Rattle.macrocell_lines.specs.WrittenText.{numbers_line, text_of_lines}
use Rattle.plane_core.specs.declared.row.SquareRow.{SquareRow}
use Rattle.plane_core.specs.Rows.{kid}

-- the first three lines: what the text is, the rule's name and the generation
abbrev pub heading_text : List ℕ → ℕ → List ℕ
heading_text name generation =
    codes "[M2] (experiment desk)\n#R " ++ name ++ codes "\n#G " ++ decimal generation ++ codes "\n"

-- the line of a row: its level and its quadrants
unfoldable pub row_line : SquareRow → List ℕ
row_line row = numbers_line (row.level ∷ kid row 0 ∷ kid row 1 ∷ kid row 2 ∷ kid row 3 ∷ [])

-- the lines of rows
abbrev pub row_lines : List SquareRow → List ℕ
row_lines rows = text_of_lines (map row_line rows)
