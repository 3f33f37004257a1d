use Rattle.worlds.specs.Arrival.{arrive-past}
use Rattle.worlds.proofs.laws.arrival_depends_on_the_past.Goals as goal

pub returns : goal.returns
returns c = arrive-past
