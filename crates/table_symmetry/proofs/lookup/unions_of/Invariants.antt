use Rattle.table_symmetry.specs.Lookup.{HasBitsOf}
use Rattle.table_symmetry.proofs.Columns.{AreRight}
use Rattle.table_symmetry.proofs.lookup.unions_of.Given as goal

-- a union for each 64 of the words so far
abbrev pub invariant-loop-number : goal.invariant-loop-number
invariant-loop-number l = AreRight (λ number union. HasBitsOf union l.words number) 0 l.unions.items l.number
