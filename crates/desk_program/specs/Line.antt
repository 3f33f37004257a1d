-- The line that says how far a settling is.
use Rattle.std.specs.Prelude.{ℕ, Bool, List, ◌++◌, codes, count_by, decimal, is_some, length}
use Rattle.desk_board.specs.Picture.{Picture}
use Rattle.desk_board.specs.declared.row.ShownRow.{ShownRow}
use Rattle.desk_program.specs.declared.progress.line.Line.{Line}

-- as in `revision 12: 3 of 8 bookmarks are current, 41 s`
abbrev pub line_text : ℕ → ℕ → ℕ → ℕ → List ℕ
line_text revision current all seconds =
    codes "revision " ++ decimal revision ++ codes ": " ++ decimal current ++ codes " of "
    ++ decimal all ++ codes " bookmarks are current, " ++ decimal seconds ++ codes " s"

-- the row has a text
abbrev pub is_current : ShownRow → Bool
is_current row = is_some row.text

-- the line for a snapshot, and so many seconds
abbrev pub line_of : Picture → ℕ → Line
line_of picture seconds = record {
  revision = picture.plan.revision;
  current = count_by is_current picture.rows;
  all = length picture.rows;
  seconds = seconds;
}
