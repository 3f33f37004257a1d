use Rattle.hash_life_laws.proofs.Shared.Steps.{result-steps}
use Rattle.hash_life_laws.proofs.result_is_steps.Goals as goal

pub returns : goal.returns
returns c = result-steps
