use Rattle.plane_core.proofs.Shared.WorldRows.{rows_of-blank}
use Rattle.plane_core.proofs.laws.empty_world_has_one_row.Goals as goal

pub returns : goal.returns
returns c = rows_of-blank
