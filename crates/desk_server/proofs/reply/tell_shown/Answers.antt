use Rattle.std.proofs.Common.{arith}
use Rattle.desk_server.proofs.Replies.{pending-shown}
use Rattle.desk_server.proofs.reply.tell_shown.Goals as goal

pub returns-in-Pending-clause-bytes : goal.returns-in-Pending-clause-bytes
returns-in-Pending-clause-bytes g c = grind (arith, pending-shown)
