use Rattle.schedule.proofs.Shared.Lines.{arrival-undisturbed}
use Rattle.schedule.proofs.laws.branch_undisturbed.Goals as goal

pub returns : goal.returns
returns c = arrival-undisturbed
