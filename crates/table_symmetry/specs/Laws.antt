-- Laws of tables: each statement is proved by a function of the same name.
use Rattle.std.specs.Prelude.{◌≡◌, ◌≤◌, ◌^◌, ℕ, true, List, length, Ok}
use Rattle.rule_file.specs.RuleFile.{NumberedLine}
use Rattle.table_lines.specs.WrittenTable.{IsTableOf, written_table}
use Rattle.table_symmetry.specs.Rule.{is_sound}
use Rattle.table_symmetry.specs.Table.{Table}
use Rattle.table_symmetry.specs.TableLines.{table_of, within_limits}

-- a table that the lines of a section mean is sound
abbrev pub TablesOfFilesAreSound : Type 0
TablesOfFilesAreSound =
    (lines : List NumberedLine) (table : Table) → table_of lines ≡ Ok table → is_sound table ≡ true

-- the lines that are written for a table within its limits mean it again, whatever numbers they
-- have
abbrev pub WrittenMeansTheSame : Type 0
WrittenMeansTheSame =
    (number : ℕ) (sets : List (List ℕ)) (table : Table) → IsTableOf sets table
    → within_limits table ≡ Ok table → table_of (written_table number sets table) ≡ Ok table

-- and each table that the lines of a section mean is such a table; no file has more than 2^64 lines
abbrev pub TablesOfFilesAreWritten : Type 0
TablesOfFilesAreWritten =
    (lines : List NumberedLine) (table : Table) → length lines ≤ 2 ^ 64 → table_of lines ≡ Ok table
    → (sets : List (List ℕ)) × IsTableOf sets table × (within_limits table ≡ Ok table)
