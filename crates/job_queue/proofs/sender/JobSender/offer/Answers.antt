use Rattle.std.proofs.Common.{◌≡◌, ◌∙◌, ◌≤◌, ◌+◌, Option, sym, ap, subst, arith}
use Rattle.crossbeam_channel.specs.Claims.{view}
use Rattle.revision_jobs.specs.declared.entries.Entries.{Entries}
use Rattle.revision_jobs.specs.Entries.{IsOf}
use Rattle.job_queue.specs.declared.rule.EndView.{EndView}
use Rattle.job_queue.specs.Balance.{IsSending}
use Rattle.job_queue.specs.Ends.{Sending}
use Rattle.job_queue.specs.Slips.{floor_of, slip_of}
use Rattle.job_queue.specs.Tables.{IsOfKnown}
use Rattle.job_queue.proofs.Shared.Once.{floor_push, rises_push}
use Rattle.job_queue.proofs.Steps.{learns, sends}
use Rattle.job_queue.proofs.sender.JobSender.offer.Goals as goal

pub try_send_as-requires-clause-rule : goal.try_send_as-requires-clause-rule
try_send_as-requires-clause-rule g c =
    let job = c.args.job in
    let inv = c.self.invariant.2 in
    let own = subst (λ (m : Sending). IsOf m.table job.place) (sym c.self.view_is) c.requires.own in
    let le = subst (λ (m : Sending). floor_of m.sent ≤ job.number) (sym c.self.view_is) c.requires.rises in
    (sends _ _ _ _ inv le (subst (λ (t : Option Entries). IsOfKnown t job) (sym inv.1) own), learns _ _ inv.0)

pub invariant_of-self : goal.invariant_of-self
invariant_of-self g c =
    let v = view c.self.inside.pass in
    let w = view c.try_send_as.new.pass in
    let job = c.args.job in
    let inv = c.self.invariant.2 in
    let le : floor_of v.sent ≤ job.number = subst (λ (m : Sending). floor_of m.sent ≤ job.number) (sym c.self.view_is) c.requires.rises in
    let e = c.in-Ok.ensures.rule in
    let last : floor_of w.sent ≡ job.number + 1 = ap (λ (u : EndView). floor_of u.sent) e ∙ floor_push 0 v.sent (slip_of job) in (
      c.in-Ok.ensures.channel.0,
      c.self.invariant.1,
      subst IsSending (sym e) (inv.0, inv.1, rises_push 0 v.sent (slip_of job) inv.2 le),
      omega (arith, last, c.from-floor.ensures),
    )
