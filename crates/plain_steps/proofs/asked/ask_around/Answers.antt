use Rattle.plain_steps.proofs.Names.{AsksMore, HasRoomAround, Place, [], ap, arith, get_or, ints, places_around, pos, subst, sym, take, take_all, take_more, ◌<◌, ◌∷◌, ◌≡◌, ◌≤◌}
use Rattle.plain_steps.proofs.Asks.{AsksMore-at, AsksMore-none, AsksMore-then}
use Rattle.plain_steps.proofs.Offsets.{near_at, place_at}
use Rattle.plain_steps.proofs.Rooms.{held_near}
use Rattle.plain_steps.proofs.asked.ask_around.Goals as goal

pub loop-offset-init : goal.loop-offset-init
loop-offset-init g c = AsksMore-none (g.R.Next.meaning c.args.rule.now) c.args.now.now c.args.asked.now

pub ask_at-requires-clause-inside : goal.ask_at-requires-clause-inside
ask_at-requires-clause-inside g c =
    let below : c.loop-offset.offset-index < 9 = omega arith in
    let near = near_at c.loop-offset.offset-index (record { x = pos 0; y = pos 0 }) below in
    record { left = omega (arith, ints); right = omega (arith, ints); top = omega (arith, ints); bottom = omega (arith, ints) }

pub ask_at-requires-clause-held : goal.ask_at-requires-clause-held
ask_at-requires-clause-held g c =
    let below : c.loop-offset.offset-index < 9 = omega arith in
    let near = near_at c.loop-offset.offset-index (record { x = pos 0; y = pos 0 }) below in
    let room : HasRoomAround c.loop-offset.asked.patch.level c.args.spot.x c.args.spot.y = subst (λ l. HasRoomAround l c.args.spot.x c.args.spot.y) (sym c.loop-offset.invariant.level) c.requires.room in
    held_near c.loop-offset.asked.patch.level c.args.spot.x c.args.spot.y _ _ room (omega (arith, ints)) (omega (arith, ints)) (omega (arith, ints)) (omega (arith, ints))

pub loop-offset-preserved : goal.loop-offset-preserved
loop-offset-preserved g c =
    let next = g.R.Next.meaning c.args.rule.now in
    let w = c.args.now.now in
    let p : Place = (c.args.spot.y, c.args.spot.x) in
    let i = c.loop-offset.offset-index in
    let below : i < 9 = omega arith in
    let near = near_at i (record { x = pos 0; y = pos 0 }) below in
    let here = place_at p i (record { x = pos 0; y = pos 0 }) below in
    let q : Place = get_or (places_around p) i p in
    let column : q.1 ≡ _ = ap (λ (r : Place). r.1) here in
    let row : q.0 ≡ _ = ap (λ (r : Place). r.0) here in
    rw (take_more (places_around p) i p below)
    (AsksMore-then next w (take i (places_around p)) _ c.args.asked.now c.loop-offset.asked c.ask_at.new.asked c.loop-offset.invariant
    (AsksMore-at (λ r. r ∷ []) _ _ q (omega (arith, ints)) (omega (arith, ints)) c.in_ok-ask_at.ensures))

pub returns : goal.returns
returns g c =
    let all : 9 ≤ c.loop-offset.offset-index = omega arith in
    subst (λ qs. AsksMore (g.R.Next.meaning c.args.rule.now) c.args.now.now qs c.args.asked.now c.loop-offset.asked) (take_all c.loop-offset.offset-index (places_around (c.args.spot.y, c.args.spot.x)) all) c.loop-offset.invariant
