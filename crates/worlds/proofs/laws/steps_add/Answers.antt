use Rattle.worlds.proofs.Shared.Steps.{iterate-add}
use Rattle.worlds.specs.Step.{step}
use Rattle.worlds.proofs.laws.steps_add.Goals as goal

pub returns : goal.returns
returns c = λ next w m n. iterate-add (step next) w m n
