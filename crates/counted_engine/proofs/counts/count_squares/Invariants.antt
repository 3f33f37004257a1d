use Rattle.counted_engine.proofs.Names.{first_number, is_four, is_put, length, picked, ◌+◌, ◌≡◌, ◌≤◌}
use Rattle.counted_engine.proofs.counts.count_squares.Given as goal

abbrev pub invariant-loop-place : goal.invariant-loop-place
invariant-loop-place l = record {
  put : l.counts.base ≡ length (picked (is_put l.table.rows l.table.notes) l.place);
  base : l.counts.base ≤ l.counts.fours;
  fours : l.counts.fours ≡ length (picked (λ i. is_four l.table.rows (first_number + i)) l.place);
  few : l.counts.fours ≤ l.place;
}
