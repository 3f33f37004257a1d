use Rattle.plane_core.proofs.Names.{ap, arith, get_or, get_or_default_zero, length, refl, set, ◌+◌, ◌-◌, ◌<◌, ◌∙◌, ◌≡◌, ◌≤◌}
use Rattle.plane_core.proofs.Counting.{gains-none, gains-state, gains-row, number-small, room-state, room-row}
use Rattle.plane_core.proofs.counts.add_square.Goals as goal

pub returns-then-number-eq0 : goal.returns-then-number-eq0
returns-then-number-eq0 c = gains-none c.args.rows.now c.args.tally.now c.args.times c.args.level c.args.number c.if-number-eq0.true c.requires.room.states

pub bounds-tally-number : goal.bounds-tally-number
bounds-tally-number c = number-small c.args.rows.now c.args.level c.args.number c.if-level-eq0.true c.requires.number

pub overflow_add-tally : goal.overflow_add-tally
overflow_add-tally c = grind (arith, number-small, room-state)

pub bounds-tally-number-then-level-eq0 : goal.bounds-tally-number-then-level-eq0
bounds-tally-number-then-level-eq0 c = number-small c.args.rows.now c.args.level c.args.number c.if-level-eq0.true c.requires.number

pub overflow_add-index_mut : goal.overflow_add-index_mut
overflow_add-index_mut c = grind (arith, room-row, get_or_default_zero)

pub returns-then-level-eq0 : goal.returns-then-level-eq0
returns-then-level-eq0 c =
    let small = number-small c.args.rows.now c.args.level c.args.number c.if-level-eq0.true c.requires.number in
    gains-state c.args.rows.now c.args.tally.now _ c.args.times c.args.level c.args.number c.if-level-eq0.true c.if-number-eq0.false c.requires.number c.requires.room.states small refl refl

pub returns-else-level-eq0 : goal.returns-else-level-eq0
returns-else-level-eq0 c =
    let there : c.args.number ≤ length c.args.tally.now.times.items = c.requires.listed (omega (arith, c.if-level-eq0.false)) in
    let some : c.args.number - 1 < length c.args.tally.now.times.items = omega (arith, there, c.if-number-eq0.false) in
    let at : c.index_mut.result.now ≡ get_or c.args.tally.now.times.items (c.args.number - 1) 0 = c.index_mut.ensures.value ∙ get_or_default_zero c.args.tally.now.times.items (c.args.number - 1) c.index_mut.result.now some in
    gains-row c.args.rows.now c.args.tally.now _ c.args.times c.args.level c.args.number c.if-level-eq0.false c.if-number-eq0.false c.requires.number there c.requires.room.states refl
    (ap (λ v. set c.args.tally.now.times.items (c.args.number - 1) (v + c.args.times)) at)
