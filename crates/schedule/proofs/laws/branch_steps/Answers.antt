use Rattle.schedule.proofs.Shared.Lines.{arrival-next}
use Rattle.schedule.proofs.laws.branch_steps.Goals as goal

pub returns : goal.returns
returns c = arrival-next
