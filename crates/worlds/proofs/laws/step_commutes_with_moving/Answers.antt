use Rattle.worlds.specs.Moved.{step-moved}
use Rattle.worlds.proofs.laws.step_commutes_with_moving.Goals as goal

pub returns : goal.returns
returns c = step-moved
