use Rattle.table_symmetry.proofs.Columns.{IsPacked}
use Rattle.table_symmetry.proofs.lookup.bits.Given as goal

abbrev pub invariant-loop-place : goal.invariant-loop-place
invariant-loop-place l = IsPacked l.words l.bit l.bits l.place
