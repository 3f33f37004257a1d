use Rattle.job_pool.proofs.Names.{All, Entries, Taking, arith, subst, sym, ◌∙◌, ◌≡◌}
use Rattle.std.proofs.lemmas.List.Elements.{All-push}
use Rattle.job_pool.proofs.Pops.{popped}
use Rattle.job_pool.proofs.lanes.lanes.Goals as goal

pub workers-preserved : goal.workers-preserved
workers-preserved c =
    let table = c.args.entries.now in
    let own = λ (t : Taking). t.table ≡ table in
    let home = λ (i : Entries). i ≡ table in
    let steps = popped own _ _ _ c.in-Some-Some.ensures.items c.workers.invariant.steps in
    let views = popped own _ _ _ c.in-Some-Some.ensures'.items c.workers.invariant.views in
    record {
      steps = steps.0;
      views = views.0;
      inboxes = subst (All home) (sym c.in_ok-push.ensures.items)
          (All-push home _ _ c.workers.invariant.inboxes (c.new.ensures ∙ steps.1));
      steps_left = omega (arith, c.in-Some-Some.ensures.cases, c.workers.invariant.steps_left);
      views_left = omega (arith, c.in-Some-Some.ensures'.cases, c.workers.invariant.views_left);
      inboxes_made = omega (arith, c.in_ok-push.ensures.len, c.workers.invariant.inboxes_made);
    }
