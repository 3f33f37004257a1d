use Rattle.replay_laws.proofs.Shared.Remade.{rows_are_made_anew}
use Rattle.replay_laws.proofs.laws.rows_are_made_anew.Goals as goal

pub returns : goal.returns
returns c = rows_are_made_anew
