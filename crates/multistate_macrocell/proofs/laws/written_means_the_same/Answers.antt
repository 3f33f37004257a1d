use Rattle.multistate_macrocell.proofs.RowNodes.{written-means}
use Rattle.multistate_macrocell.proofs.laws.written_means_the_same.Goals as goal

pub returns : goal.returns
returns c = written-means
