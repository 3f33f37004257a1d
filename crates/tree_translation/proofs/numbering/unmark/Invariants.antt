use Rattle.tree_translation.proofs.Names.{AreMarked, drop}
use Rattle.tree_translation.proofs.numbering.unmark.Given as goal

abbrev pub invariant-loop-rest : goal.invariant-loop-rest
invariant-loop-rest l = AreMarked l.is_there (drop l.rest-index l.found)
