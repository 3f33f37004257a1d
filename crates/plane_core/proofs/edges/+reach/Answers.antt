use Rattle.plane_core.proofs.Names.{IfOk-weaker, arith, length, nat_tests, ◌-◌, ◌<◌, ◌≡◌}
use Rattle.plane_core.specs.Edges.{IsLeastDepth}
use Rattle.plane_core.proofs.Bands.{kids_band, reach_far, reach_near, reach_zero, some_far}
use Rattle.plane_core.proofs.edges.+reach.Goals as goal

pub returns-then-level-eq0 : goal.returns-then-level-eq0
returns-then-level-eq0 t c = reach_zero c.args.rows.now c.args.edge c.args.level c.args.band.now c.if-level-eq0.true c.requires.band

pub reach-requires : goal.reach-requires
reach-requires t c =
    let more : 0 < length c.in_ok-near.near.items = grind (arith, nat_tests) in
    (omega arith, (c.requires.rows, (omega arith, rw c.deref.ensures.value (kids_band _ _ c.args.level _ _ (omega arith) c.requires.band c.in_ok-near.ensures c.requires.rows.valid more))))

pub returns-then-not-is_empty : goal.returns-then-not-is_empty
returns-then-not-is_empty t c =
    let reaches = IsLeastDepth c.args.rows.now c.args.edge in
    IfOk-weaker c.reach.result (reaches (c.args.level - 1) c.deref.result.now) (reaches c.args.level c.args.band.now) (λ d r.
    reach_near _ _ c.args.level _ _ d (omega arith) c.requires.band c.in_ok-near.ensures (rw c.deref.ensures.value at r)) c.reach.ensures

pub reach-requires-2 : goal.reach-requires-2
reach-requires-2 t c =
    let none : length c.in_ok-near.near.items ≡ 0 = grind (arith, nat_tests) in
    let other = rw c.opposite.ensures at c.in_ok-far.ensures in
    let more = some_far _ _ c.args.level _ _ _ c.requires.rows (omega arith) c.requires.band c.in_ok-near.ensures none other in
    (omega arith, (c.requires.rows, (omega arith, rw c.deref-2.ensures.value (kids_band _ _ c.args.level _ _ (omega arith) c.requires.band other c.requires.rows.valid more))))

pub returns : goal.returns
returns t c =
    let none : length c.in_ok-near.near.items ≡ 0 = grind (arith, nat_tests) in
    let other = rw c.opposite.ensures at c.in_ok-far.ensures in
    let below = rw c.deref-2.ensures.value at c.in_ok-depth.ensures in
    rw c.side.ensures.value (reach_far _ _ c.args.level _ _ _ c.in_ok-depth.depth (omega arith) c.requires.band c.in_ok-near.ensures none other below)
