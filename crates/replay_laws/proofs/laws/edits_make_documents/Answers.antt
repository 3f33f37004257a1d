use Rattle.replay_laws.proofs.Shared.Made.{edits_make_documents}
use Rattle.replay_laws.proofs.laws.edits_make_documents.Goals as goal

pub returns : goal.returns
returns c = edits_make_documents
