use Rattle.schedule.proofs.Shared.Lines.{one_line}
use Rattle.schedule.proofs.laws.without_branches.Goals as goal

pub returns : goal.returns
returns c = one_line
