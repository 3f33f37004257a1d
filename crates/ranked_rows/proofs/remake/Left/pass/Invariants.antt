use Rattle.std.proofs.Common.{◌≡◌, drop}
use Rattle.std.specs.List.{AllByRecursion}
use Rattle.ranked_rows.specs.Rows.{rows_from}
use Rattle.ranked_rows.proofs.remake.Left.pass.Given as goal

abbrev pub invariant-loop-place : goal.invariant-loop-place
invariant-loop-place g l =
    let left = drop l.place l.self-inside.rows.items in
    record {
      rows : rows_from g.T.Ranked.rank l.rank left ≡ rows_from g.T.Ranked.rank l.rank l.fn.self;
      owed : AllByRecursion (g.M.Remakes.may_go l.maker) left;
    }
