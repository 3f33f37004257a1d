use Rattle.macrocell_lines.proofs.Names.{drop, length, pieces, replicate, rows_of, slice_index, take, ℕ, ◌-◌, ◌<◌, ◌≡◌, ◌≤◌}
use Rattle.macrocell_lines.proofs.Rows.{with_front}
use Rattle.macrocell_lines.proofs.bitmap.read_bitmap.Given as goal

abbrev pub invariant-loop-text : goal.invariant-loop-text
invariant-loop-text l = record {
  drawn : with_front (take l.y l.rows) (rows_of (8 - l.y) l.texts) ≡ rows_of 8 (pieces 36 l.line);
  dead : drop l.y l.rows ≡ replicate (8 - l.y) 0;
  small : (y : ℕ) → slice_index l.rows y < 256;
  long : length l.rows ≡ 8;
  within : l.y ≤ 8;
}

abbrev pub decreases-loop-text : goal.decreases-loop-text
decreases-loop-text l = length l.texts
