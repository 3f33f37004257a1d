use Rattle.std.proofs.Common.{refl}
use Rattle.bit_blocks.specs.Numbers.{two_of}
use Rattle.bit_blocks.proofs.answers.cells.Goals as goal

pub returns : goal.returns
unfolding two_of
returns c = refl
