use Rattle.desk_events.proofs.Shared.Stays.{shows_only_scratch, stays_right}
use Rattle.desk_events.proofs.laws.whatever_happens_the_desk_is_right.Goals as goal

pub returns-clause-right : goal.returns-clause-right
returns-clause-right c = stays_right

pub returns-clause-shown : goal.returns-clause-shown
returns-clause-shown c = shows_only_scratch
