use Rattle.std.proofs.Common.{◌≡◌, ◌+◌, length, sym, subst, arith}
use Rattle.plane_core.proofs.Counting.{GainsFirst, next-of, first-none, first-next, first-room, first-all}
use Rattle.plane_core.proofs.counts.add_quadrants.Goals as goal

pub loop-q-init : goal.loop-q-init
loop-q-init c = first-none c.args.rows.now c.args.tally.now c.args.times (length c.args.tally.now.times.items) c.requires.room.states

pub add_square-requires : goal.add_square-requires
add_square-requires c = grind (arith, next-of, first-room)

pub loop-q-preserved : goal.loop-q-preserved
loop-q-preserved c =
    let at : c.len.result ≡ length c.args.tally.now.times.items = omega (arith, c.len.ensures) in
    let before = subst (λ i. GainsFirst c.args.rows.now c.args.tally.now c.loop-q.tally c.args.times i c.loop-q.q) (sym at) c.loop-q.invariant in
    subst (λ i. GainsFirst c.args.rows.now c.args.tally.now c.add_square.new.tally c.args.times i (c.loop-q.q + 1)) at
    (first-next c.args.rows.now c.args.tally.now c.loop-q.tally c.add_square.new.tally c.args.times c.len.result c.loop-q.q before c.add_square.ensures)

pub returns : goal.returns
returns c = grind (arith, next-of, first-all)
