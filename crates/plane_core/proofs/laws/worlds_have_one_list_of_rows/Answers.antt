use Rattle.plane_core.proofs.Shared.WorldRows.{rows_of-squares}
use Rattle.plane_core.proofs.laws.worlds_have_one_list_of_rows.Goals as goal

pub returns : goal.returns
returns c = rows_of-squares
