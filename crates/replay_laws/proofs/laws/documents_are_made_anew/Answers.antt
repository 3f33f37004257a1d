use Rattle.replay_laws.proofs.Shared.Made.{documents_are_made_anew}
use Rattle.replay_laws.proofs.laws.documents_are_made_anew.Goals as goal

pub returns-clause-made : goal.returns-clause-made
returns-clause-made c = documents_are_made_anew
