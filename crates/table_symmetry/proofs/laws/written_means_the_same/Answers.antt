use Rattle.table_symmetry.proofs.Shared.WrittenTables.{written-means}
use Rattle.table_symmetry.proofs.laws.written_means_the_same.Goals as goal

pub returns : goal.returns
returns c = written-means
