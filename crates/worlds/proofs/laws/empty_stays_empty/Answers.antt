use Rattle.worlds.specs.Step.{step-blank}
use Rattle.worlds.proofs.laws.empty_stays_empty.Goals as goal

pub returns : goal.returns
returns c = step-blank
