use Rattle.table_symmetry.proofs.table_reader.rows_of.Goals as goal

pub returns : goal.returns
returns c = rw (c.symmetry.ensures, c.transitions.ensures.value) at c.expand.ensures
