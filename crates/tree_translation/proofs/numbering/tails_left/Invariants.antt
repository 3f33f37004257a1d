use Rattle.tree_translation.proofs.Names.{AreTailsFound, take}
use Rattle.tree_translation.proofs.numbering.tails_left.Given as goal

abbrev pub invariant-loop-number : goal.invariant-loop-number
invariant-loop-number l = AreTailsFound l.layer l.state (take l.number-index l.list) l.is_there l.found.items
