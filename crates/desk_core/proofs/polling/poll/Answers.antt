use Rattle.desk_core.proofs.Names.{Cause, CollectsOn, IssueFault, None, Option, arith, refl, subst, sym, ◌≡◌}
use Rattle.desk_core.specs.Feed.{HoldsWork}
use Rattle.desk_core.specs.Polling.{AnswersHeld, IsCauseOf}
use Rattle.desk_core.proofs.Polls.{none_of}
use Rattle.desk_core.proofs.Steps.{Keeps-come, ServesOn-come}
use Rattle.desk_core.proofs.polling.poll.Goals as goal

unrefused : (refused : Option IssueFault) (told : Option Cause) → IsCauseOf refused told → told ≡ None → refused ≡ None
unrefused refused told is none = grind arith

pub returns : goal.returns
returns g c =
    let old = c.args.desk.now in
    let mid = c.collect_all.new.desk in
    let p = g.P.Post.view c.args.post.now in
    let q = g.P.Post.view c.collect_all.new.post in
    let r = g.P.Post.view c.feed_on.new.post in
    let collected = subst (CollectsOn p q old mid) (none_of c.collect_all.result c.in_default.not-Some)
    c.collect_all.ensures in
    let fed = c.feed_on.ensures in
    let come = fed.comes c.cause_of-cause.result c.cause_of-cause.ensures old p collected.comes in
    record {
      keeps = Keeps-come _ _ _ _ _ refl come;
      post = ServesOn-come _ _ _ _ _ refl come;
      cause = come.told;
      calls = come.calls;
      polls = record {
        met = None;
        post = q;
        desk = mid;
        collects = collected.collects;
        feeds = (c.feed_on.result.taken, (c.feed_on.result.refused, (fed.feeds, c.cause_of-cause.ensures)));
        pending = c.pending-2.ensures.count;
        right = c.pending-2.ensures.right;
      };
      prompt = λ all. record {
        worked = subst (AnswersHeld p.held p.answers) (sym fed.feeds.silent) (collected.collects.prompt all.prompt);
        goes_on = λ none. subst (λ n. HoldsWork n r.held) (sym c.pending-2.ensures.count)
            (fed.feeds.prompt (collected.collects.serves.held all)
            (unrefused c.feed_on.result.refused c.cause_of-cause.result c.cause_of-cause.ensures none));
      };
    }
