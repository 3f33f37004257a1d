use Rattle.plane_core.proofs.Names.{Gains, IsNumber, Tally, arith, length, refl, replicate, root_of, square_in, subst, sym}
use Rattle.plane_core.proofs.Shared.Roots.{rooted}
use Rattle.plane_core.proofs.Counting.{room-root, tallied-root, popped-room, tallied-more, tallied-all}
use Rattle.plane_core.proofs.counts.counts.Goals as goal

pub add_square-requires-clause-number : goal.add_square-requires-clause-number
add_square-requires-clause-number c = subst (λ k. IsNumber c.args.rows.now k (length c.args.rows.now)) (sym c.root_level.ensures.level) (rooted c.args.rows.now c.requires.rows).number

pub add_square-requires-clause-room : goal.add_square-requires-clause-room
add_square-requires-clause-room c = grind (arith, room-root)

pub loop-times-init : goal.loop-times-init
loop-times-init c =
    let rows = c.args.rows.now in
    let empty : Tally = record { counts = replicate 256 0; times = c.in_ok-from_elem.field-0 } in
    let new = c.add_square.new.tally in
    tallied-root rows empty new c.requires.rows refl (c.in_ok-from_elem.ensures.items_if_clones_equal (λ y h. h))
    (subst (λ k. Gains rows empty new 1 (square_in rows k (length rows))) c.root_level.ensures.level c.add_square.ensures)

pub add_quadrants-requires-clause-room : goal.add_quadrants-requires-clause-room
add_quadrants-requires-clause-room c =
    let rows = c.args.rows.now in
    let popped : Tally = record { counts = c.loop-times.tally.counts; times = c.pop.new.self } in
    popped-room rows (root_of rows) c.loop-times.tally popped c.in-Some.times refl c.in-Some.ensures.items c.loop-times.invariant

pub loop-times-preserved : goal.loop-times-preserved
loop-times-preserved c =
    let rows = c.args.rows.now in
    let popped : Tally = record { counts = c.loop-times.tally.counts; times = c.pop.new.self } in
    tallied-more rows (root_of rows) c.loop-times.tally popped c.add_quadrants.new.tally c.in-Some.times refl c.in-Some.ensures.items c.loop-times.invariant c.add_quadrants.ensures

pub returns : goal.returns
returns c = grind (arith, tallied-all)
