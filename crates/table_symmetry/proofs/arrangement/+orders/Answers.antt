use Rattle.table_symmetry.specs.Circle as maps
use Rattle.table_symmetry.specs.Expanded.{same_sets}
use Rattle.table_symmetry.proofs.Arranged.{same_sets_decides}
use Rattle.table_symmetry.proofs.Distinct.{distinct-flat_map}
use Rattle.table_symmetry.proofs.arrangement.+orders.Goals as goal

pub returns-in_ok-shorter-in-Some : goal.returns-in_ok-shorter-in-Some
returns-in_ok-shorter-in-Some t c =
    let once = distinct-flat_map same_sets same_sets_decides same_sets same_sets_decides (maps.insertions c.in-Some.first.now) (maps.permutations c.in-Some.others.now) in
    rw c.in-Some.ensures.cases.0 (rw (c.in_ok-shorter-in-Some.ensures, once) at c.longer_orders.ensures)
