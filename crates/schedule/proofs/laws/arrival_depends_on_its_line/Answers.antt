use Rattle.schedule.proofs.Shared.Lines.{arrival-unfelt}
use Rattle.schedule.proofs.laws.arrival_depends_on_its_line.Goals as goal

pub returns : goal.returns
returns c = arrival-unfelt
