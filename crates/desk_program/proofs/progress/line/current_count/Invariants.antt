use Rattle.std.proofs.Common.{◌≡◌, ◌≤◌, count_by, take}
use Rattle.desk_program.specs.Line.{is_current}
use Rattle.desk_program.proofs.progress.line.current_count.Given as goal

abbrev pub invariant-loop-row : goal.invariant-loop-row
invariant-loop-row l = record {
  counted : l.current ≡ count_by is_current (take l.row-index l.rows);
  low : l.current ≤ l.row-index;
}
