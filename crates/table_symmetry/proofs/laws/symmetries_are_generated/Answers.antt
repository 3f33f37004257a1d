use Rattle.table_symmetry.proofs.Compositions.{symmetries_generated}
use Rattle.table_symmetry.proofs.laws.symmetries_are_generated.Goals as goal

pub returns : goal.returns
returns c = symmetries_generated
