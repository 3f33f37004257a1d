use Rattle.plane_core.proofs.Names.{All-more, All-nil, Bool, IsTrue, List, Span, Touches, arith, false, get_or, length, pos, refl, subst, true, ◌<◌, ◌↔◌, ◌≡◌}
use mathlib.Core.Bool.{beq}
use Rattle.plane_core.proofs.lay.run_length.Goals as goal

abbrev none : Span
none = record { x = pos 0; y = pos 0; count = 0; state = 0 }

same_test : (a b : Bool) → beq a b ≡ true → a ≡ b
same_test true true h = refl
same_test false false h = refl
same_test true false h = absurd cc
same_test false true h = absurd cc

pub loop-count-init : goal.loop-count-init
loop-count-init c =
    let same = λ (s : Span). IsTrue c.args.is_near ↔ Touches c.args.part s in
    (omega arith, omega (arith, c.requires.some), All-more same c.args.spans.now 0 none c.requires.some (All-nil same) (c.requires.first none))

pub loop-count-preserved : goal.loop-count-preserved
loop-count-preserved c =
    let same = λ (s : Span). IsTrue c.args.is_near ↔ Touches c.args.part s in
    let ss : List Span = c.args.spans.now in
    let i = c.loop-count.count in
    let below : i < length ss = omega (arith, c.loop-count-test.true) in (
      omega arith,
      omega (arith, below),
      All-more same ss i none below c.loop-count.invariant.2 (subst (λ b. IsTrue b ↔ Touches c.args.part (get_or ss i none)) (same_test c.touches.result c.args.is_near c.if-touches-is_near.true) c.touches.ensures),
    )
