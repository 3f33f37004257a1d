-- Rows of a table as they lie in memory.
use Rattle.std.specs.Prelude.{ℕ, ◌+◌, ◌*◌, ◌/◌, ◌%◌, ◌-◌, List, ◌++◌, length, get_or, map, replicate}
use Rattle.square_table.specs.declared.row.Row.{Row}

-- numbers in a row are below this, as they take 25 bits of a word
abbrev pub number_range : ℕ
number_range = 33554432

-- notes are below this, as they take the other 7 bits of four words
abbrev pub note_range : ℕ
note_range = 268435456

-- the number in a word
abbrev pub number_in : ℕ → ℕ
number_in word = word % number_range

-- what stands above it
abbrev pub part_in : ℕ → ℕ
part_in word = word / number_range

-- the quadrants of a row
abbrev pub kids_in : Row → List ℕ
kids_in row = map number_in row.words

-- what is noted in it: the parts are the digits to the base 128, the lowest first
unfoldable pub note_of : List ℕ → ℕ
note_of words =
    part_in (get_or words 0 0) + 128 * (part_in (get_or words 1 0)
    + 128 * (part_in (get_or words 2 0) + 128 * part_in (get_or words 3 0)))

abbrev pub note_in : Row → ℕ
note_in row = note_of row.words

-- the quadrants of rows
abbrev pub kids_of : List Row → List (List ℕ)
kids_of rows = map kids_in rows

-- what is noted in them, and 0 for each that may come behind them
abbrev pub notes_of : List Row → ℕ → List ℕ
notes_of rows limit = map note_in rows ++ replicate (limit - length rows) 0
