use Rattle.table_symmetry.proofs.Names.{HasColumns, []}
use Rattle.table_symmetry.proofs.Columns.{AreRight}
use Rattle.table_symmetry.proofs.lookup.Lookup.new.Given as goal

abbrev pub invariant-loop-place : goal.invariant-loop-place
invariant-loop-place l = AreRight (HasColumns l.rows l.states) [] l.columns.items l.place
