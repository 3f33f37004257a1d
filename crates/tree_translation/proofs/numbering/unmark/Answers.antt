use Rattle.tree_translation.proofs.Names.{AreMarked, subst}
use Rattle.std.proofs.Math.ListN.{drop_of_length-le}
use Rattle.tree_translation.proofs.TailsLeft.{none-marked}
use Rattle.tree_translation.proofs.numbering.unmark.Goals as goal

pub returns : goal.returns
returns c = none-marked c.loop-rest.is_there (subst (AreMarked c.loop-rest.is_there) (drop_of_length-le c.args.found.now c.loop-rest-test.false) c.loop-rest.invariant)
