use Rattle.plain_steps.proofs.Names.{CellSet, arith, get_or, length, places_around, pos, refl, rules, take, to_z-of_z, w64, ◌<◌, ◌∙◌}
use Rattle.plain_steps.proofs.Asks.{AsksMore-at}
use Rattle.plain_steps.proofs.Mentions.{place_of}
use Rattle.plain_steps.proofs.Next.{asked_for, asked_for-more, asked_all, next-laid, next-together, next-still}
use Rattle.plain_steps.proofs.generation.next_generation.Goals as goal

pub loop-cell-init : goal.loop-cell-init
loop-cell-init g c = record { level = refl; asked = c.nothing-asked.ensures.none (g.R.Next.meaning c.args.rule.now) c.args.now.now }

pub loop-cell-preserved : goal.loop-cell-preserved
loop-cell-preserved g c =
    let cs = c.deref-cell-items.result.now in
    let i = c.loop-cell.cell-index in
    let below : i < length cs = omega arith in
    let d : CellSet = record { x = pos 0; y = pos 0; state = 0 } in
    let next = g.R.Next.meaning c.args.rule.now in
    let w = c.args.now.now in
    let around = AsksMore-at places_around _ _ (place_of (get_or cs i d)) (to_z-of_z {w = w64} (search rules)) (to_z-of_z {w = w64} (search rules)) c.in_ok-ask_around.ensures in
    record {
      level = c.in_ok-ask_around.ensures.level ∙ c.loop-cell.invariant.level;
      asked = rw (asked_for-more cs i d below) (around.asked (asked_for (take i cs)) c.loop-cell.invariant.asked);
    }

pub returns-then-asked-clause-still : goal.returns-then-asked-clause-still
returns-then-asked-clause-still g c =
    let all = asked_all c.loop-cell.cell-index c.loop-cell-test.false c.deref-cell-items.ensures.value c.now.view_is c.loop-cell.invariant.asked in
    rw c.now.view_is at (next-still (g.R.Next.meaning c.args.rule.now) (g.met.R.Next.quiet c.args.rule.now) _ _ all c.if-asked.true)

pub invariant_of-result : goal.invariant_of-result
invariant_of-result g c =
    let all = asked_all c.loop-cell.cell-index c.loop-cell-test.false c.deref-cell-items.ensures.value c.now.view_is c.loop-cell.invariant.asked in
    next-together (g.R.Next.meaning c.args.rule.now) (g.met.R.Next.quiet c.args.rule.now) _ _ all

pub returns-clause-later : goal.returns-clause-later
returns-clause-later g c =
    let all = asked_all c.loop-cell.cell-index c.loop-cell-test.false c.deref-cell-items.ensures.value c.now.view_is c.loop-cell.invariant.asked in
    rw c.now.view_is at (next-laid (g.R.Next.meaning c.args.rule.now) (g.met.R.Next.quiet c.args.rule.now) _ _ all)
