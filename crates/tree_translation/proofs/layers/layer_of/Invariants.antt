use Rattle.std.proofs.Common.{length}
use Rattle.tree_translation.proofs.Layering.{AreTails}
use Rattle.tree_translation.proofs.layers.layer_of.Given as goal

abbrev pub invariant-loop-row : goal.invariant-loop-row
invariant-loop-row l = AreTails l.place l.rows l.rests l.sets.keys.keys l.tails.keys.keys l.numbers.items (length l.yielded)
