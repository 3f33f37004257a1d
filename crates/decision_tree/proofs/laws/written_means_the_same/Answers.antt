use Rattle.decision_tree.proofs.Shared.WrittenTrees.{written-means}
use Rattle.decision_tree.proofs.laws.written_means_the_same.Goals as goal

pub returns : goal.returns
returns c = written-means
