use Rattle.schedule.proofs.Shared.Acts.{is_progression}
use Rattle.schedule.proofs.laws.repeats_are_progressions.Goals as goal

pub returns : goal.returns
returns c = is_progression
