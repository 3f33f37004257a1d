use Rattle.hash_engine.proofs.Names.{GrowsBy, IsSquareOf, arith, subst, ◌<◌}
use Rattle.hash_engine.proofs.SmallRows.{one_four, one_four-count}
use Rattle.hash_engine.proofs.small.lay_small.Goals as goal

pub loop-place-preserved : goal.loop-place-preserved
loop-place-preserved c =
    let was = c.loop-place.invariant in
    let few : c.loop-place.place < 65536 = omega arith in
    let grows = subst (λ kids. GrowsBy kids c.loop-place.table c.join_numbers.new.self) c.four.ensures c.join_numbers.ensures.one in
    let is = subst (λ kids. IsSquareOf c.join_numbers.new.self.rows kids c.in_ok-join_numbers.field-0) c.four.ensures c.in_ok-join_numbers.ensures.square in
    record { rest = grind arith; fours = one_four few was.count was.fours grows is; count = one_four-count few was.count was.fours grows is }
