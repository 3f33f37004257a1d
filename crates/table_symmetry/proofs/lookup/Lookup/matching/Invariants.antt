use Rattle.table_symmetry.proofs.Finds.{IsNarrowed}
use Rattle.table_symmetry.proofs.lookup.Lookup.matching.Given as goal

abbrev pub invariant-loop-columns : goal.invariant-loop-columns
invariant-loop-columns l = IsNarrowed l.self.columns l.inputs l.word l.rows l.columns-iterator.a.rest.now l.columns-iterator.b.rest.now
