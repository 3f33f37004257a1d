use Rattle.std.proofs.Common.{ap, arith, inl, inr, length, refl}
use Rattle.desk_core.proofs.Polls.{Collects-come, given_on, many_on, nothing_more, worked_on, worked_out}
use Rattle.desk_core.proofs.Steps.{HasCome-first, Idles-ended, Idles-nothing}
use Rattle.desk_core.proofs.polling.collect_all.Goals as goal

pub loop-init : goal.loop-init
loop-init g c =
    let begun = c.begun-progress.ensures in
    record {
      comes = HasCome-first _ _ _ begun.0 begun.1 c.requires;
      none = begun.0;
      given = refl;
      asked = omega arith;
      many = omega arith;
      worked = λ prompt. inl (refl, refl);
    }

pub loop-preserved : goal.loop-preserved
loop-preserved g c =
    let before = c.loop.invariant in
    let goes = c.collect.ensures.goes _ _ c.in-Answer.ensures in
    record {
      comes = goes.comes _ _ before.comes;
      none = c.collect.ensures.none before.none;
      given = given_on c.args.desk.now c.loop.desk c.collect.new.desk goes.given before.given;
      asked = let one = c.in-Answer.ensures.same.asked in let was = before.asked in omega (arith, one, was);
      many = many_on _ _ c.in-Answer.answer _ c.loop.counter c.in-Answer.ensures.answers before.many;
      worked = worked_on (g.P.Post.view c.args.post.now) (g.P.Post.view c.loop.post) _ c.in-Answer.answer
          c.in-Answer.ensures before.comes.kind before.worked;
    }

pub returns-in-Nothing : goal.returns-in-Nothing
returns-in-Nothing g c =
    let before = c.loop.invariant in
    nothing_more _ _ _ _ _ _ _ (Idles-nothing _ _ c.in-Nothing.ensures) c.in-Nothing.ensures.same.asked
    before.comes before.none before.given before.asked before.many before.worked
    (λ prompt. (c.in-Nothing.ensures.prompt prompt).0)

pub returns-in-Ended : goal.returns-in-Ended
returns-in-Ended g c =
    let before = c.loop.invariant in
    nothing_more _ _ _ _ _ _ _ (Idles-ended _ _ c.in-Ended.ensures) c.in-Ended.ensures.same.asked
    before.comes before.none before.given before.asked before.many before.worked
    (λ prompt. absurd (c.in-Ended.ensures.prompt prompt))

pub returns : goal.returns
returns g c =
    let before = c.loop.invariant in
    let spent = c.loop-test.false in
    Collects-come _ _ _ _ _ c.loop.counter before.comes before.none before.given before.many
    (inr (omega (arith, spent)))
    (λ prompt. worked_out (g.P.Post.view c.args.post.now) (g.P.Post.view c.loop.post)
    (λ same. let many = ap (λ xs. length xs) same in absurd (omega (arith, many, before.many, spent)))
    (before.worked prompt))
