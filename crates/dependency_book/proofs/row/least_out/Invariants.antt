use Rattle.dependency_book.proofs.Names.{drop, least_out, lesser, ◌≡◌}
use Rattle.dependency_book.proofs.row.least_out.Given as goal

abbrev pub invariant-loop-row : goal.invariant-loop-row
invariant-loop-row g l = lesser l.least (least_out (drop l.row-index l.rows)) ≡ least_out l.rows
