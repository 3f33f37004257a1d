use Rattle.desk_events.proofs.ManyEvents.{many_events}
use Rattle.desk_events.proofs.laws.many_events.Goals as goal

pub returns : goal.returns
returns c = many_events
