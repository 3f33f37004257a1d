use Rattle.job_pool.proofs.Names.{ap, floor_of, slip_of, subst, sym, ◌∙◌, ◌≤◌}
use Rattle.job_pool.proofs.Splits.{floor_then, then_split_step}
use Rattle.job_pool.proofs.outbox.Outbox.offer_step.Goals as goal

pub invariant_of-self : goal.invariant_of-self
invariant_of-self g c =
    let old = c.self.invariant in
    let job = c.args.job in
    let noted = slip_of c.of-noted.result.value in
    let same = ap slip_of c.of-noted.ensures in
    let low = subst (λ o. floor_of o.sent ≤ job.number) (sym c.self.view_is) c.requires.rises in (
      old.0 ∙ sym c.offer-sent.ensures.table,
      old.1 ∙ sym c.offer-sent.ensures.table,
      then_split_step _ _ _ _ _ (slip_of job) noted c.in-Taken.ensures.sent same c.push.ensures low old.2,
      floor_then c.self.inside.sent _ (slip_of job) noted _ c.from-floor.ensures same c.push.ensures,
    )
