use Rattle.schedule.proofs.Shared.Reach.{reach-greatest}
use Rattle.schedule.proofs.laws.reach_is_greatest.Goals as goal

pub returns : goal.returns
returns c = reach-greatest
