use Rattle.table_symmetry.proofs.table.TableRule.still.Goals as goal

pub invariant_of-result : goal.invariant_of-result
invariant_of-result c = rw c.still.ensures (c.empty.ensures 2)
