use Rattle.square_table.proofs.Names.{get_or, kids_of, length, map, note_in, ℕ, ◌<◌, ◌≡◌}
use Rattle.square_table.proofs.row.forget.Given as goal

abbrev pub invariant-loop-row : goal.invariant-loop-row
invariant-loop-row l = record {
  count : length l.rows ≡ length l.fn.rows;
  kids : kids_of l.rows ≡ kids_of l.fn.rows;
  none : (i : ℕ) → i < l.row-index → get_or (map note_in l.rows) i 0 ≡ 0;
}
