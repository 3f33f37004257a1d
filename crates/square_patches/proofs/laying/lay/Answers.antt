use Rattle.std.proofs.Common.{arith}
use Rattle.square_patches.proofs.Middles.{laid-patch}
use Rattle.square_patches.proofs.laying.lay.Goals as goal

pub returns-clause-laid : goal.returns-clause-laid
returns-clause-laid g c = grind (arith, laid-patch)
