use Rattle.schedule.proofs.Shared.Lines.{arrival-fork}
use Rattle.schedule.proofs.laws.branch_begins.Goals as goal

pub returns : goal.returns
returns c = arrival-fork
