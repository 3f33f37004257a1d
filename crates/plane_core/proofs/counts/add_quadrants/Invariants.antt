use Rattle.std.proofs.Common.{length}
use Rattle.plane_core.proofs.Counting.{GainsFirst}
use Rattle.plane_core.proofs.counts.add_quadrants.Given as goal

abbrev pub invariant-loop-q : goal.invariant-loop-q
invariant-loop-q l = GainsFirst l.rows l.initial.tally l.tally l.times (length l.initial.tally.times.items) l.q
