use Rattle.plane_core.proofs.Names.{arith, eq-eqb, eqb-true, lt-ltb, ltb-true}
use Rattle.plane_core.proofs.Shared.Sound.{IsNumber-state, state-IsNumber, zero-IsNumber, number-listed, listed-number}
use Rattle.plane_core.proofs.valid.is_number.Goals as goal

pub returns-then-level-eq0 : goal.returns-then-level-eq0
returns-then-level-eq0 c = grind (arith, IsNumber-state, ltb-true, lt-ltb, state-IsNumber)

pub returns-then-number-eq0 : goal.returns-then-number-eq0
returns-then-number-eq0 c = grind (arith, zero-IsNumber)

pub returns-then-place-rows : goal.returns-then-place-rows
returns-then-place-rows c = grind (arith, number-listed)

pub returns : goal.returns
returns c = grind (arith, listed-number, eqb-true, eq-eqb, number-listed)
