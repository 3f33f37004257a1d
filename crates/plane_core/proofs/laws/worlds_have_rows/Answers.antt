use Rattle.plane_core.proofs.Shared.WorldRows.{squares-rows_of}
use Rattle.plane_core.proofs.laws.worlds_have_rows.Goals as goal

pub returns : goal.returns
returns c = squares-rows_of
