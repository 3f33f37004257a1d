use Rattle.tree_translation.proofs.Names.{AreNear, take}
use Rattle.tree_translation.proofs.near.tails_of_block.Given as goal

abbrev pub invariant-loop-number : goal.invariant-loop-number
invariant-loop-number l = AreNear l.layer l.block (take l.number-index l.list) l.near.items
