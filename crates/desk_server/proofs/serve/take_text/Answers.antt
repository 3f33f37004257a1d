use Rattle.std.proofs.Common.{arith}
use Rattle.desk_server.proofs.Replies.{kept-taken}
use Rattle.desk_server.proofs.serve.take_text.Goals as goal

pub returns-clause-kept : goal.returns-clause-kept
returns-clause-kept g = grind (arith, kept-taken)
