use Rattle.dependency_book.proofs.Names.{drop, row_for, ◌≡◌}
use Rattle.dependency_book.proofs.row.row_for.Given as goal

abbrev pub invariant-loop-row : goal.invariant-loop-row
invariant-loop-row g l = row_for l.number (drop l.row-index l.rows) ≡ row_for l.number l.rows
