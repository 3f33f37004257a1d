use Rattle.step_engine.proofs.Names.{ap, arith, iterate, iterate-zero, refl, rules, step, sym, ◌-◌, ◌∙◌}
use Rattle.step_engine.proofs.Evolving.{CanEvolve-later, iterate-more}
use Rattle.step_engine.proofs.kept.Engine.by_leaps.Goals as goal

pub loop-left-init : goal.loop-left-init
loop-left-init g c =
    let f = step (g.R.Next.meaning c.args.self.now.rule) in
    record {
      same = refl;
      unasked = refl;
      few = omega arith;
      short = search (rules, arith);
      some = λ some. search (rules, arith);
      length = (c.first-length.ensures.some, c.first-length.ensures.most);
      came = c.in_ok-now.ensures ∙ sym (iterate-zero f c.args.plane.now) ∙ ap (λ n. iterate n f c.args.plane.now) (omega arith);
    }

pub leap-requires : goal.leap-requires
leap-requires g c =
    let is = c.loop-left.invariant in
    let rule = c.args.self.now.rule in
    let can = CanEvolve-later (g.R.Next.state_count rule) (c.args.generations - c.loop-left.left) c.stride-count.result c.args.generations (g.R.Next.meaning rule) c.args.plane.now
    (g.met.R.Next.quiet rule) (g.met.R.Next.below rule) (omega (arith, is.few, c.stride-count.ensures.left)) c.requires in
    rw (is.came, is.same) can

pub loop-left-preserved-in-Ok : goal.loop-left-preserved-in-Ok
loop-left-preserved-in-Ok g c =
    let is = c.loop-left.invariant in
    let count = c.stride-count.result in
    let came = iterate-more (step (g.R.Next.meaning c.args.self.now.rule)) c.args.plane.now c.loop-left.now count (c.args.generations - c.loop-left.left)
    (c.args.generations - (c.loop-left.left - count)) (omega (arith, is.few, c.stride-count.ensures.left)) is.came in
    record {
      same = search rules;
      unasked = search rules;
      few = omega (arith, is.few);
      short = is.short;
      some = is.some;
      length = search (rules, arith);
      came = rw is.same at c.in-Ok.ensures.plane ∙ came;
    }
