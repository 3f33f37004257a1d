use Rattle.decision_tree.proofs.Names.{arith, get_or, get_or_default, slice_index, states_at, ℕ, ◌*◌, ◌+◌, ◌∙◌, ◌≡◌}
use Rattle.decision_tree.proofs.Following.{Step, no_input, step_at}
use Rattle.decision_tree.proofs.entries.follow_wide.Goals as goal
use Rattle.decision_tree.proofs.entries.follow_wide.Goals.{In-loop-input}

-- what one more input does
step : (c : In-loop-input) (place : ℕ) → place ≡ c.loop-input.number * c.args.states + (get_or c.args.inputs.now c.loop-input.input-index no_input).now
    → Step c.args.states (c.args.root + 1) c.args.entries.now c.loop-input.number (states_at c.args.inputs.now) c.loop-input.input-index place
step c place at =
    step_at c.args.states (c.args.root + 1) c.args.entries.now c.loop-input.number c.args.inputs.now c.loop-input.input-index place c.requires.stores.filled
    c.loop-input.invariant.leading c.loop-input-test.true c.requires.below at

pub overflow_mul-number : goal.overflow_mul-number
overflow_mul-number c =
    let place = c.loop-input.number * c.from-width.result + (get_or c.args.inputs.now c.loop-input.input-index no_input).now in
    omega (arith, (step (goal.at.overflow_mul-number c).In-loop-input place (rw c.from-width.ensures)).inside)

pub overflow_add-number : goal.overflow_add-number
overflow_add-number c =
    let place = c.loop-input.number * c.from-width.result + c.from.result in
    omega (arith, (step (goal.at.overflow_add-number c).In-loop-input place (rw (c.from-width.ensures, c.from.ensures))).inside)

pub offset_bounds-entries-number : goal.offset_bounds-entries-number
offset_bounds-entries-number c =
    let place = c.loop-input.number * c.from-width.result + c.from.result in
    omega (arith, (step (goal.at.offset_bounds-entries-number c).In-loop-input place (rw (c.from-width.ensures, c.from.ensures))).inside)

pub bounds-entries-number : goal.bounds-entries-number
bounds-entries-number c = (step (goal.at.bounds-entries-number c).In-loop-input _ (rw (c.from-width.ensures, c.from.ensures))).inside

pub loop-input-preserved : goal.loop-input-preserved
loop-input-preserved c =
    let place = c.loop-input.number * c.from-width.result + c.from.result in
    let one = step (goal.at.loop-input-preserved c).In-loop-input place (rw (c.from-width.ensures, c.from.ensures)) in
    let read : c.number-number.result ≡ slice_index c.args.entries.now place =
    c.number-number.ensures.number ∙ c.index-entries-number.is ∙ get_or_default c.args.entries.now place c.index-entries-number.result 0 one.inside in
    rw read (record { leading = one.leading; found = one.found ∙ c.loop-input.invariant.found })
