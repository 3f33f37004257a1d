use Rattle.schedule.proofs.Shared.Repeats.{over-inserted}
use Rattle.schedule.proofs.document.Document.crowds.Goals as goal

pub returns : goal.returns
returns c cells =
    over-inserted _ _ _ cells _ _ _ c.marks_with-marks.ensures.marks c.reach.ensures c.add_marks.ensures
