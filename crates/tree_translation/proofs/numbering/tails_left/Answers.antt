use Rattle.tree_translation.proofs.Names.{take, take_more}
use Rattle.tree_translation.proofs.numbering.tails_left.Goals as goal

pub loop-number-preserved : goal.loop-number-preserved
loop-number-preserved c =
    rw (take_more c.args.list.now c.loop-number.number-index 0 c.loop-number-test.true)
    (c.in_ok-add_rest.ensures (take c.loop-number.number-index c.args.list.now) c.loop-number.invariant)
