use Rattle.table_symmetry.proofs.table.TableRule.new.Goals as goal

pub new-requires-clause-inputs : goal.new-requires-clause-inputs
new-requires-clause-inputs c = rw c.neighborhood.ensures c.requires.full

pub invariant_of-result : goal.invariant_of-result
invariant_of-result c = rw (c.requires.listed, c.states.ensures.count, c.neighborhood.ensures) at c.in_ok-lookup.ensures
