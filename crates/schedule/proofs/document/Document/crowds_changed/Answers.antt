use Rattle.schedule.proofs.Shared.Repeats.{over-changed}
use Rattle.schedule.proofs.document.Document.crowds_changed.Goals as goal

pub returns : goal.returns
returns c cells = over-changed _ _ _ cells _ c.marks_changed.ensures
