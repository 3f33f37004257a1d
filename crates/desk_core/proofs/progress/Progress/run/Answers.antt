use Rattle.desk_core.proofs.Names.{arith, stage}
use Rattle.desk_core.proofs.Looks.{looked_at, looks_first, looks_then}
use Rattle.desk_core.proofs.Steps.{HasCome-first, none_before}
use Rattle.desk_core.proofs.Turns.{asked-on, done-at_end, ended-at_end, turns-at_first, turns-spent, turns-on}
use Rattle.desk_core.proofs.progress.Progress.run.Goals as goal

pub loop-init : goal.loop-init
loop-init g c =
    let begun = c.begun-progress.ensures in
    record {
      comes = HasCome-first c.args.desk.now (g.P.Post.view c.args.post.now) c.begun-progress.result begun.0 begun.1
          c.requires;
      given = omega arith;
      asked = omega arith;
      turns = λ all enough none. turns-at_first c.args.desk.now c.begun-progress.result.unsent
          (g.P.Post.view c.args.post.now).held c.args.turns begun.0 enough;
      looked = looks_first g.O.Onlooker.sees (g.P.Post.view c.args.post.now) _ _ _
          (looked_at g.O.Onlooker.sees c.look.result _ _ _ c.look.ensures.seen c.look.ensures.unseen);
    }

pub returns-in-Break-clause-ended : goal.returns-in-Break-clause-ended
returns-in-Break-clause-ended g c =
    ended-at_end c.args.turns (g.P.Post.view c.args.post.now)
    (stage c.loop.desk (g.P.Post.view c.loop.post) c.loop.progress)
    (stage c.turn.new.desk (g.P.Post.view c.turn.new.post) c.turn.new.self) c.turn.result c.in-Break.is
    c.turn.ensures.asks

pub returns-in-Break-clause-done : goal.returns-in-Break-clause-done
returns-in-Break-clause-done g c = λ all enough none.
    done-at_end
    (stage c.loop.desk (g.P.Post.view c.loop.post) c.loop.progress)
    (stage c.turn.new.desk (g.P.Post.view c.turn.new.post) c.turn.new.self)
    c.turn.result c.in-Break.is (c.turn.ensures.nears _ _ c.loop.invariant.comes all none)

pub loop-preserved : goal.loop-preserved
loop-preserved g c =
    let s = stage c.loop.desk (g.P.Post.view c.loop.post) c.loop.progress in
    let t = stage c.turn.new.desk (g.P.Post.view c.turn.new.post) c.turn.new.self in
    record {
      comes = c.turn.ensures.goes.comes _ _ c.loop.invariant.comes;
      given = let was = c.loop.invariant.given in let more = c.turn.ensures.goes.given in omega (arith, was, more);
      asked = asked-on s t c.turn.result (g.P.Post.view c.args.post.now).asked c.loop.counter c.in-Continue.is
          c.turn.ensures.asks c.loop.invariant.asked;
      turns = λ all enough none. turns-on s t c.turn.result c.loop.counter c.args.turns c.in-Continue.is
          (c.loop.invariant.turns all enough (none_before _ _ c.turn.ensures.goes.cause none))
          (c.turn.ensures.nears _ _ c.loop.invariant.comes all none);
      looked = looks_then g.O.Onlooker.sees _ (g.P.Post.view c.loop.post) (g.P.Post.view c.turn.new.post) _ c.turn.new.desk
          _ _ _ (c.turn.ensures.goes.comes _ _ c.loop.invariant.comes).document.plan c.loop.invariant.looked
          c.turn.ensures.looked;
    }

pub returns-clause-done : goal.returns-clause-done
returns-clause-done g c = λ all enough none.
    turns-spent (stage c.loop.desk (g.P.Post.view c.loop.post) c.loop.progress) c.loop.counter c.args.turns
    c.loop-test.false (c.loop.invariant.comes.jobs.at_hand all) (c.loop.invariant.turns all enough none)

pub returns-in-Break-clause-looked : goal.returns-in-Break-clause-looked
returns-in-Break-clause-looked g c =
    looks_then g.O.Onlooker.sees _ (g.P.Post.view c.loop.post) (g.P.Post.view c.turn.new.post) _ c.turn.new.desk _ _ _
    (c.turn.ensures.goes.comes _ _ c.loop.invariant.comes).document.plan c.loop.invariant.looked c.turn.ensures.looked

pub returns-in-Break-clause-comes : goal.returns-in-Break-clause-comes
returns-in-Break-clause-comes g c = c.turn.ensures.goes.comes _ _ c.loop.invariant.comes
