use Rattle.desk_server.proofs.Rounds.{answered_over}
use Rattle.desk_server.proofs.server.run.Goals as goal

pub returns-in-Ok-clause-over : goal.returns-in-Ok-clause-over
returns-in-Ok-clause-over g c = answered_over _ _ _ _ _ _ _ _ _ _ c.in-Ok.is c.run_seen.ensures.shown
