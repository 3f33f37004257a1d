use Rattle.schedule.proofs.Shared.Alike.{arrival-within}
use Rattle.schedule.proofs.laws.arrival_within_reach.Goals as goal

pub returns : goal.returns
returns c p q sound alike b g low = arrival-within p q b g sound alike low
