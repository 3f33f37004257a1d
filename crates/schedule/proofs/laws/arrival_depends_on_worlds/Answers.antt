use Rattle.schedule.proofs.Shared.Alike.{arrival-alike}
use Rattle.schedule.proofs.laws.arrival_depends_on_worlds.Goals as goal

pub returns : goal.returns
returns c = λ p q sound alike b g. arrival-alike p q b g sound alike
