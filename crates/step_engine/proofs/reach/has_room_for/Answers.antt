use Rattle.step_engine.proofs.Names.{BoxLiesWithin, ap, arith, ints, refl, subst, sym, ◌-◌, ◌^◌, ◌∙◌, ◌≡◌}
use Rattle.step_engine.proofs.Boxes.{IsInRange-box, HasMargin-box}
use Rattle.step_engine.proofs.Reaching.{LiesWithin-box, LiesWithin-blank, box-LiesWithin}
use Rattle.step_engine.proofs.reach.has_room_for.Goals as goal

pub lies_within-requires-clause-range : goal.lies_within-requires-clause-range
lies_within-requires-clause-range c = IsInRange-box c.in-Some.bounds c.args.plane.now c.bounds.ensures.in_range c.in-Some.ensures.some

pub returns-in-None-clause-room : goal.returns-in-None-clause-room
returns-in-None-clause-room c = λ _. record {
  few = omega (arith, c.if-generations-side.false, c.side-side.ensures.value);
  within = LiesWithin-blank _ c.args.plane.now (c.in-None.ensures.none.0 refl);
}

pub returns-in-Some-clause-room : goal.returns-in-Some-clause-room
returns-in-Some-clause-room c = λ yes. record {
  few = omega (arith, c.if-generations-side.false, c.side-side.ensures.value);
  within = LiesWithin-box _ c.in-Some.bounds c.args.plane.now c.in-Some.ensures.some (subst (λ n. BoxLiesWithin (n - c.args.generations) c.in-Some.bounds) c.side-side.ensures.value (c.lies_within.ensures.0 yes));
}

pub returns-in-Some-clause-most : goal.returns-in-Some-clause-most
returns-in-Some-clause-most c = λ top few margin.
    let side : c.side-side.result ≡ 2 ^ 61 = c.side-side.ensures.value ∙ ap (λ k. 2 ^ k) top in
    let box = (HasMargin-box c.args.generations c.in-Some.bounds c.args.plane.now c.in-Some.ensures.some).1 margin in
    c.lies_within.ensures.1 (omega (arith, ints))

pub returns-then-generations-side-clause-only : goal.returns-then-generations-side-clause-only
returns-then-generations-side-clause-only c = λ room. let few = room.few in absurd (omega (arith, few, c.if-generations-side.true, c.side-side.ensures.value))

pub returns-in-Some-clause-only : goal.returns-in-Some-clause-only
returns-in-Some-clause-only c = λ room.
    c.lies_within.ensures.1 (subst (λ n. BoxLiesWithin (n - c.args.generations) c.in-Some.bounds) (sym c.side-side.ensures.value) (box-LiesWithin _ c.in-Some.bounds c.args.plane.now c.in-Some.ensures.some room.within))
