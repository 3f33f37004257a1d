use Rattle.square_tree.proofs.Names.{arith, ints}
use Rattle.square_tree.proofs.patch.spans.Goals as goal

pub returns : goal.returns
returns c =
    let value = c.side.ensures.value in
    let fits = c.side.ensures.fits in
    let reach = c.reach-reach.ensures in
    (λ below. record { from = grind (arith, ints); to = grind (arith, ints) }, λ spans. let to = spans.to in grind (arith, ints))
