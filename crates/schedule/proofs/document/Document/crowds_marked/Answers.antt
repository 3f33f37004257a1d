use Rattle.schedule.proofs.Shared.Repeats.{over-marked}
use Rattle.schedule.proofs.document.Document.crowds_marked.Goals as goal

pub returns : goal.returns
returns c view = over-marked _ _ _ view _ c.marks_with.ensures.marks
