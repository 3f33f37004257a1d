use Rattle.plane_core.proofs.Names.{IsRow, get_or, no_row, take, ℕ, ◌<◌}
use Rattle.plane_core.proofs.valid.are_rows.Given as goal

abbrev pub invariant-loop-place : goal.invariant-loop-place
invariant-loop-place l = (k : ℕ) → k < l.place → IsRow (take k l.rows) (get_or l.rows k no_row)
