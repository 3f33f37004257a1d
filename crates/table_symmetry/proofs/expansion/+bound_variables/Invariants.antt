use Rattle.std.proofs.Common.{length}
use Rattle.table_symmetry.proofs.expansion.+bound_variables.Given as goal

abbrev pub decreases-bound_variables : goal.decreases-bound_variables
decreases-bound_variables l = length l.entries.now
