use Rattle.schedule.proofs.Shared.Lines.{arrival-added}
use Rattle.schedule.proofs.laws.new_branch_keeps_arrivals.Goals as goal

pub returns : goal.returns
returns c = arrival-added
