use Rattle.bit_blocks.proofs.Places.{zeros_small}
use Rattle.bit_blocks.proofs.grid.Grid.empty.Goals as goal

pub invariant_of-result : goal.invariant_of-result
invariant_of-result c = record { below = zeros_small 64 }
