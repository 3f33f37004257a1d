use Rattle.plane_core.proofs.Names.{IsTallied, length, root_of}
use Rattle.plane_core.proofs.counts.counts.Given as goal

abbrev pub invariant-loop-times : goal.invariant-loop-times
invariant-loop-times l = IsTallied l.rows (root_of l.rows) l.tally

abbrev pub decreases-loop-times : goal.decreases-loop-times
decreases-loop-times l = length l.tally.times.items
