use Rattle.worlds.specs.Step.{cell-step}
use Rattle.worlds.proofs.laws.state_after_step.Goals as goal

pub returns : goal.returns
returns c = cell-step
