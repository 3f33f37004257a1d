use Rattle.schedule.proofs.Shared.Lines.{arrival-removed}
use Rattle.schedule.proofs.laws.removed_branch_keeps_arrivals.Goals as goal

pub returns : goal.returns
returns c = arrival-removed
