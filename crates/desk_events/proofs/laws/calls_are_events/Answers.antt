use Rattle.desk_events.proofs.Shared.Called.{calls_are_events}
use Rattle.desk_events.proofs.laws.calls_are_events.Goals as goal

pub returns : goal.returns
returns c = calls_are_events
