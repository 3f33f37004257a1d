use Rattle.std.proofs.Common.{ap, arith, refl, subst, suc, sym, ◌+◌, ◌-◌, ◌∙◌, ◌≡◌}
use Rattle.worlds.specs.Iterate.{iterate, iterate-one_more, iterate-zero}
use Rattle.worlds.specs.Range.{AllBelow, HasMargin}
use Rattle.worlds.specs.Step.{step}
use Rattle.worlds.proofs.Shared.Stepped.{AllBelow-step, HasMargin-less, HasMargin-step}
use Rattle.worlds.proofs.Shared.Steps.{still-iterate}
use Rattle.step_engine.proofs.Shared.Ends.{CountsStop-memory, CountsStop-ok, no_room-memory}
use Rattle.plain_engine.proofs.engine.evolve_plain.Goals as goal
use Rattle.plain_engine.proofs.engine.evolve_plain.Goals.{else-loop-test, then-loop-test+else-poll+in_ok-next_generation+in-None}

pub returns-then-generations-eq0-clause-plane : goal.returns-then-generations-eq0-clause-plane
returns-then-generations-eq0-clause-plane g c =
    let f = step (g.R.Next.meaning c.args.rule.now) in
    c.in_ok-copy.ensures ∙ sym (iterate-zero f c.args.plane.now) ∙ ap (λ n. iterate n f c.args.plane.now) (sym c.if-generations-eq0.true)

pub loop-init : goal.loop-init
loop-init g c = record {
  stepped = c.in_ok-now.ensures ∙ sym (iterate-zero (step (g.R.Next.meaning c.args.rule.now)) c.args.plane.now);
  below = subst (AllBelow (g.R.Next.state_count c.args.rule.now)) (sym c.in_ok-now.ensures) c.requires.below;
  fits = subst (λ w. HasMargin (c.args.generations - 0) w) (sym c.in_ok-now.ensures) (subst (λ r. HasMargin r c.args.plane.now) (omega arith) c.requires.fits);
  asked = refl;
}

pub loop-preserved : goal.loop-preserved
loop-preserved g c =
    let next = g.R.Next.meaning c.args.rule.now in
    let quiet = g.met.R.Next.quiet c.args.rule.now in
    let is : c.in-Some.later ≡ step next c.loop.now = rw c.in-Some.is at c.in_ok-next_generation.ensures.later in
    let room : HasMargin (suc (c.args.generations - (c.loop.counter + 1))) c.loop.now = subst (λ r. HasMargin r c.loop.now) (omega arith) c.loop.invariant.fits in
    record {
      stepped = is ∙ ap (step next) c.loop.invariant.stepped ∙ sym (iterate-one_more c.loop.counter (step next) c.args.plane.now);
      below = subst (AllBelow (g.R.Next.state_count c.args.rule.now)) (sym is) (AllBelow-step _ next c.loop.now quiet (g.met.R.Next.below c.args.rule.now) c.loop.invariant.below);
      fits = subst (λ w. HasMargin (c.args.generations - (c.loop.counter + 1)) w) (sym is) (HasMargin-step _ next c.loop.now quiet room);
      asked = (let k = c.if-poll.ensures in let a = c.loop.invariant.asked in omega (arith, k, a));
    }

pub plane-requires : goal.plane-requires
plane-requires g c = HasMargin-less 0 (c.args.generations - c.loop.counter) c.loop.now (omega arith) c.loop.invariant.fits

pub returns-clause-plane : goal.returns-clause-plane
returns-clause-plane g c =
    let f = step (g.R.Next.meaning c.args.rule.now) in
    c.in_ok-plane.ensures
    ∙ elim c.loop-test.branch [
      | else-loop-test w ↦ c.loop.invariant.stepped ∙ ap (λ n. iterate n f c.args.plane.now) (omega arith)
      | then-loop-test+else-poll+in_ok-next_generation+in-None w ↦ still-iterate f c.args.plane.now c.loop.now c.loop.counter c.args.generations
          (omega arith) c.loop.invariant.stepped (rw w.in-None.is at w.in_ok-next_generation.ensures.still)
    ]

pub returns-in_err-copy-clause-stop : goal.returns-in_err-copy-clause-stop
returns-in_err-copy-clause-stop g c = CountsStop-memory c.from_residual.result c.from_residual.ensures.1 refl

pub returns-in_err-copy-clause-room : goal.returns-in_err-copy-clause-room
returns-in_err-copy-clause-room g c = no_room-memory c.from_residual.result c.from_residual.ensures.1

pub returns-in_err-now-clause-stop : goal.returns-in_err-now-clause-stop
returns-in_err-now-clause-stop g c = CountsStop-memory c.from_residual-in_err-now.result c.from_residual-in_err-now.ensures.1 refl

pub returns-in_err-now-clause-room : goal.returns-in_err-now-clause-room
returns-in_err-now-clause-room g c = no_room-memory c.from_residual-in_err-now.result c.from_residual-in_err-now.ensures.1

pub returns-in_err-next_generation-clause-stop : goal.returns-in_err-next_generation-clause-stop
returns-in_err-next_generation-clause-stop g c = CountsStop-memory c.from_residual-in_err-next_generation.result c.from_residual-in_err-next_generation.ensures.1 (omega (arith, c.if-poll.ensures, c.loop.invariant.asked))

pub returns-in_err-next_generation-clause-room : goal.returns-in_err-next_generation-clause-room
returns-in_err-next_generation-clause-room g c = no_room-memory c.from_residual-in_err-next_generation.result c.from_residual-in_err-next_generation.ensures.1

pub returns-in_err-plane-clause-stop : goal.returns-in_err-plane-clause-stop
returns-in_err-plane-clause-stop g c = CountsStop-memory c.from_residual-in_err-plane.result c.from_residual-in_err-plane.ensures.1 (elim c.loop-test.branch [
  | else-loop-test w ↦ ap g.S.Stop.yes_count w.stop-is ∙ c.loop.invariant.asked
  | then-loop-test+else-poll+in_ok-next_generation+in-None w ↦ ap g.S.Stop.yes_count w.stop-is ∙ omega (arith, w.if-poll.ensures, c.loop.invariant.asked)
])

pub returns-in_err-plane-clause-room : goal.returns-in_err-plane-clause-room
returns-in_err-plane-clause-room g c = no_room-memory c.from_residual-in_err-plane.result c.from_residual-in_err-plane.ensures.1

pub returns-then-generations-eq0-clause-stop : goal.returns-then-generations-eq0-clause-stop
returns-then-generations-eq0-clause-stop g c = CountsStop-ok _ refl

pub returns-then-poll-clause-stop : goal.returns-then-poll-clause-stop
returns-then-poll-clause-stop g c = record { stopped = λ _. omega (arith, c.if-poll.ensures, c.loop.invariant.asked); went_on = λ not. absurd (not refl) }

pub returns-clause-stop : goal.returns-clause-stop
returns-clause-stop g c = CountsStop-ok _ (elim c.loop-test.branch [
  | else-loop-test w ↦ ap g.S.Stop.yes_count w.stop-is ∙ c.loop.invariant.asked
  | then-loop-test+else-poll+in_ok-next_generation+in-None w ↦ ap g.S.Stop.yes_count w.stop-is ∙ omega (arith, w.if-poll.ensures, c.loop.invariant.asked)
])
