use Rattle.std.proofs.Common.{length}
use Rattle.table_symmetry.proofs.arrangement.+orders.Given as goal

abbrev pub decreases-orders : goal.decreases-orders
decreases-orders l = length l.circle.now
