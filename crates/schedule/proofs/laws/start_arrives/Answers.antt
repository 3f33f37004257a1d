use Rattle.schedule.proofs.Shared.Lines.{arrival-start}
use Rattle.schedule.proofs.laws.start_arrives.Goals as goal

pub returns : goal.returns
returns c = arrival-start
