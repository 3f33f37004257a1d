use Rattle.table_symmetry.specs.Lookup.{HasBitsOf}
use Rattle.table_symmetry.proofs.Columns.{AreRight-more}
use Rattle.table_symmetry.proofs.lookup.unions_of.Goals as goal

pub loop-number-preserved : goal.loop-number-preserved
loop-number-preserved c =
    AreRight-more (λ number union. HasBitsOf union c.args.words.now number) 0 c.bits_of_any.result c.loop-number.unions.items c.push.new.self.items c.loop-number.number
    (λ bit place below none. rw (← c.block.ensures.each place below) (c.bits_of_any.ensures bit none place)) c.in_ok-push.ensures.items c.loop-number.invariant
