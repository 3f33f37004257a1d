use Rattle.std.proofs.Common.{nat_lt, rules, arith}
use Rattle.std.proofs.lemmas.Bool.Decides.{nat_tests}
use Rattle.std.proofs.lemmas.List.Sorted.{IsPartitionPoint-from_clause, IsPartitionedBy-ltb}
use Rattle.ranked_rows.proofs.Shared.Places.{parts, never_falls}
use Rattle.ranked_rows.proofs.place.place_in.Goals as goal

pub returns : goal.returns
returns g c =
    let rank = g.T.Ranked.rank in
    let n = c.args.rank in
    let rows = c.args.rows.now in
    let point =
    IsPartitionPoint-from_clause
    (λ r. nat_lt (rank r) n) rows c.partition_point.result c.partition_point.ensures.partitioned
    (IsPartitionedBy-ltb rank rows n (never_falls rank rows c.requires))
    (λ a r q k. search rules) in
    parts rank n rows c.partition_point.result c.partition_point.ensures.bound
    (λ j d low. let is = point.0 j d (omega arith) low in grind (arith, nat_tests))
    (λ j d from low. let is = point.1 j d from low in grind (arith, nat_tests))
