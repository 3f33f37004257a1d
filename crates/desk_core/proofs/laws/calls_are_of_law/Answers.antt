use Rattle.desk_core.proofs.Shared.Called.{calls_of_law}
use Rattle.desk_core.proofs.laws.calls_are_of_law.Goals as goal

pub returns : goal.returns
returns c = calls_of_law
