use Rattle.schedule.proofs.Shared.Repeats.{over-forked}
use Rattle.schedule.proofs.document.Document.crowds_forked.Goals as goal

pub returns : goal.returns
returns c = over-forked _ _ _ _ c.marks_with.ensures.sound c.marks_with.ensures.marks
