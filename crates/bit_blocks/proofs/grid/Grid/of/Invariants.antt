use Rattle.bit_blocks.specs.Grids.{HasBlocks}
use Rattle.bit_blocks.proofs.grid.Grid.of.Given as goal

abbrev pub invariant-loop-k : goal.invariant-loop-k
invariant-loop-k l = HasBlocks l.blocks l.k l.grid.places
