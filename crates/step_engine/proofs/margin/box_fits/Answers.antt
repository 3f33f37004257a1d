use Rattle.step_engine.proofs.Names.{arith, ints, refl}
use Rattle.step_engine.proofs.margin.box_fits.Goals as goal

pub returns : goal.returns
returns c = (
  λ _. omega (arith, ints),
  λ _. refl,
)
