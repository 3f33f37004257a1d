-- The next cell among words.
use Rattle.std.specs.Prelude.{◌≡◌, ◌<◌, List, [], None, Some, ℕ, length}
use Rattle.script_lines.specs.Words.{words}
use Rattle.desk_script.specs.Command.{cells_said, before}
use Rattle.desk_script.specs.declared.cells.CellFound.{CellFound}
use Rattle.desk_script.specs.declared.cells.CellFound.TheVariants as found

-- no word is left, or no cell stands there, or one does before others
abbrev pub NextCell : List ℕ → CellFound → Type 0
NextCell bytes found.End = words bytes ≡ []
NextCell bytes found.Bad = cells_said (words bytes) ≡ None
NextCell bytes (found.Cell cell rest) =
    (cells_said (words bytes) ≡ before (Some cell) (cells_said (words rest.now)))
    × (length rest.now < length bytes)
