use Rattle.multistate_rle.proofs.PatternReads.{written_means}
use Rattle.multistate_rle.proofs.laws.written_means_the_same.Goals as goal

pub returns : goal.returns
returns c = written_means
