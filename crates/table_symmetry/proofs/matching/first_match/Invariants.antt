use Rattle.table_symmetry.proofs.Names.{drop, first_match, ◌≡◌}
use Rattle.table_symmetry.proofs.matching.first_match.Given as goal

abbrev pub invariant-loop-row : goal.invariant-loop-row
invariant-loop-row l = first_match (drop l.row-index l.rows) l.inputs ≡ first_match l.rows l.inputs
