use Rattle.std.proofs.Common.{drop}
use Rattle.std.specs.List.{AllByRecursion}
use Rattle.ranked_rows.proofs.remake.Left.release.Given as goal

abbrev pub invariant-loop-place : goal.invariant-loop-place
invariant-loop-place g l = AllByRecursion (g.M.Remakes.may_go l.maker) (drop l.place l.self-inside.rows.items)
