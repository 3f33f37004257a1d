use Rattle.plane_core.proofs.Names.{SquareRow, get_or, ℕ, ◌<◌, ◌≡◌}
use Rattle.plane_core.proofs.row.are_same.Given as goal

abbrev pub invariant-loop-i : goal.invariant-loop-i
invariant-loop-i l = (k : ℕ) (d : SquareRow) → k < l.i → get_or l.a k d ≡ get_or l.b k d
