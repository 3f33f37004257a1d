use Rattle.dependency_book.proofs.Names.{count_by, is_pending, take, ◌≡◌, ◌≤◌}
use Rattle.dependency_book.proofs.texts.pending_count.Given as goal

abbrev pub invariant-loop-row : goal.invariant-loop-row
invariant-loop-row l = record {
  counted : l.count ≡ count_by is_pending (take l.row-index l.rows);
  low : l.count ≤ l.row-index;
}
