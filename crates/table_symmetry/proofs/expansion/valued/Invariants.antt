use Rattle.std.proofs.Common.{◌≡◌, map, take}
use Rattle.table_symmetry.specs.NextState as meaning
use Rattle.table_symmetry.proofs.expansion.valued.Given as goal

abbrev pub invariant-loop-entry : goal.invariant-loop-entry
invariant-loop-entry l = l.inputs.items ≡ map (meaning.valued_entry l.variable l.state) (take l.entry-index l.entry-items)
