use Rattle.std.proofs.Common.{arith}
use Rattle.plane_core.proofs.Shared.Centres.{corner-alone, corner-none, corner-only}
use Rattle.plane_core.proofs.Shared.Sound.{zero-IsNumber, number-listed}
use Rattle.plane_core.proofs.centre.inner.Goals as goal

pub returns-then-number-eq0-clause-some : goal.returns-then-number-eq0-clause-some
returns-then-number-eq0-clause-some c = grind (arith, corner-none, zero-IsNumber)

pub bounds-rows-number : goal.bounds-rows-number
bounds-rows-number c = grind (arith, number-listed)

pub returns-then-is_alone-clause-some : goal.returns-then-is_alone-clause-some
returns-then-is_alone-clause-some c = grind (arith, corner-alone)

pub returns-else-is_alone-clause-none : goal.returns-else-is_alone-clause-none
returns-else-is_alone-clause-none c = grind (arith, corner-only)
