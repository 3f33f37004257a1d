use Rattle.std.proofs.Common.{arith, shl_exact, pow_mono}
use Rattle.plane_core.proofs.part.side.Goals as goal

pub returns-clause-small : goal.returns-clause-small
returns-clause-small c = grind (arith, shl_exact, pow_mono)
