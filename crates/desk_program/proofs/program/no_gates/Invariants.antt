use Rattle.std.proofs.Common.{◌≡◌, vec_len}
use Rattle.desk_program.proofs.program.no_gates.Given as goal

abbrev pub invariant-gates : goal.invariant-gates
invariant-gates l = vec_len l.gates ≡ l.made
