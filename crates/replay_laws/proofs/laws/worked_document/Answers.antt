use Rattle.replay_laws.proofs.Example.{worked_document}
use Rattle.replay_laws.proofs.laws.worked_document.Goals as goal

pub returns : goal.returns
returns c = worked_document
