use Rattle.std.proofs.Common.{arith}
use Rattle.schedule.proofs.document.Document.check_changed.Goals as goal

pub returns : goal.returns
returns c = grind (arith, c.crowds_changed.ensures c.args.cells.now)
