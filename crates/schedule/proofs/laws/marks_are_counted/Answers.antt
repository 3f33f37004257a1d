use Rattle.schedule.proofs.Shared.Acts.{marks-counted}
use Rattle.schedule.proofs.laws.marks_are_counted.Goals as goal

pub returns : goal.returns
returns c first every last far some = marks-counted first every last far
