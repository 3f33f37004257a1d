use Rattle.plain_steps.proofs.Names.{ap, ap₂, arith, false, ints, is_some, state_at, sym, true, ◌<◌, ◌∙◌, ◌≡◌}
use Rattle.plain_steps.proofs.Asks.{AsksMore-again, AsksMore-noted}
use Rattle.plain_steps.proofs.asked.ask_at.Goals as goal

pub returns-then-is_some : goal.returns-then-is_some
returns-then-is_some g c =
    let has : is_some (state_at c.args.asked.now.patch c.args.spot.x c.args.spot.y) ≡ true =
    sym (c.is_some.ensures ∙ ap is_some (c.get.ensures ∙ ap₂ (state_at c.args.asked.now.patch) (omega (arith, ints)) (omega (arith, ints)))) ∙ c.if-is_some.true in
    AsksMore-again _ c.args.now.now c.args.asked.now c.args.spot.x c.args.spot.y has

pub returns : goal.returns
returns g c =
    let has : is_some (state_at c.args.asked.now.patch c.args.spot.x c.args.spot.y) ≡ false =
    sym (c.is_some.ensures ∙ ap is_some (c.get.ensures ∙ ap₂ (state_at c.args.asked.now.patch) (omega (arith, ints)) (omega (arith, ints)))) ∙ c.if-is_some.false in
    let small : c.next.result < 256 = omega arith in
    AsksMore-noted (g.R.Next.meaning c.args.rule.now) c.args.now.now c.args.asked.now c.note.new.self c.args.spot.x c.args.spot.y c.state-before.result c.next.result has c.requires.held
    c.state-before.ensures (c.next.ensures ∙ ap (g.R.Next.meaning c.args.rule.now) c.states_around-states.ensures) small c.in_ok-note.ensures
