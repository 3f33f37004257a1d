use Rattle.table_lines.proofs.Sets.{nothing}
use Rattle.table_lines.proofs.state_set.StateSet.empty.Goals as goal

pub returns : goal.returns
returns c = nothing
