-- What holds of the lines of all tables.
use Rattle.std.specs.Prelude.{◌≡◌, ℕ, Bool, true, ◌≤◌, ◌^◌, List, ◌∷◌, ◌++◌, is_some, length, map, Ok}
use Rattle.std.specs.List.{list_all}
use Rattle.rule_file.specs.declared.text.SectionKind.TheVariants as section_kind
use Rattle.rule_file.specs.RuleFile.{NumberedLine, file_of, is_name}
use Rattle.table_lines.specs.Descriptors.{descriptor_of}
use Rattle.table_lines.specs.Lines.{lines_of}
use Rattle.table_lines.specs.Read.{IsRead}
use Rattle.table_lines.specs.Table.{Table}
use Rattle.table_lines.specs.WrittenTable.{IsTableOf, written_file, written_table}

-- lines that say a table say it under other numbers too: blank lines and comments between them
-- change nothing
abbrev pub NumbersDoNotMatter : Type 0
NumbersDoNotMatter =
    (lines others : List NumberedLine) (table : Table)
    → map (λ line. line.text) lines ≡ map (λ line. line.text) others → lines_of lines ≡ Ok table
    → lines_of others ≡ Ok table

-- whether a line is a descriptor
abbrev pub is_descriptor : NumberedLine → Bool
is_descriptor line = is_some (descriptor_of line.text)

-- two descriptors, one after the other, may stand in the other order, and so all three in any
abbrev pub DescriptorsInAnyOrder : Type 0
DescriptorsInAnyOrder =
    (front : List NumberedLine) (line next : NumberedLine) (rest : List NumberedLine)
    (table : Table)
    → list_all is_descriptor front ≡ true → is_descriptor line ≡ true → is_descriptor next ≡ true
    → lines_of (front ++ line ∷ next ∷ rest) ≡ Ok table
    → lines_of (front ++ next ∷ line ∷ rest) ≡ Ok table

-- a table that lines say has two states or more and 256 at most, and its transitions name no others
-- and have an input for the cell and each neighbour
abbrev pub TablesOfLinesAreRead : Type 0
TablesOfLinesAreRead =
    (lines : List NumberedLine) (table : Table) → lines_of lines ≡ Ok table → IsRead table

-- the lines that are written for a table, whatever numbers they have, say it again
abbrev pub WrittenTablesAreRead : Type 0
WrittenTablesAreRead =
    (number : ℕ) (sets : List (List ℕ)) (table : Table) → IsTableOf sets table
    → lines_of (written_table number sets table) ≡ Ok table

-- a table that lines say is one for which lines are written, whose variables are some sets; no file
-- has more than 2^64 lines
abbrev pub TablesOfLinesAreWritten : Type 0
TablesOfLinesAreWritten =
    (lines : List NumberedLine) (table : Table) → length lines ≤ 2 ^ 64 → lines_of lines ≡ Ok table
    → (sets : List (List ℕ)) × IsTableOf sets table

-- the text that is written for a name and a table is the rule file of this name whose section are
-- these lines
abbrev pub WrittenIsItsFile : Type 0
WrittenIsItsFile =
    (name : List ℕ) (sets : List (List ℕ)) (table : Table) → is_name name ≡ true
    → IsTableOf sets table
    → file_of (written_file name sets table)
    ≡ Ok
    (record {
      name = name;
      section =
          record {
            kind = section_kind.Table;
            opened = 2;
            lines = written_table 3 sets table;
          };
    })
