use Rattle.std.proofs.Common.{true, refl}
use Rattle.desk_server.proofs.Replies.{gives-shown}
use Rattle.desk_server.proofs.serve.peek.Goals as goal

pub returns-clause-answer : goal.returns-clause-answer
returns-clause-answer c = gives-shown true c.args.desk.now.plan c.args.desk.now c.args.id c.shown-shown.result refl c.shown-shown.ensures
