use Rattle.schedule.proofs.Shared.Repeats.{over-moved}
use Rattle.schedule.proofs.document.Document.crowds_moved.Goals as goal

pub returns : goal.returns
returns c = over-moved c.args.self.now c.args.id c.args.generation c.marks_moved.result c.marks_moved.ensures
