use Rattle.job_pool.proofs.Names.{IsOffered, IsSent, List, PostHistory, Slip, ap, floor_of, floor_push, refl, slip_of, sym, true≢false, ◌∙◌}
use Rattle.revision_jobs.specs.declared.answer.Job.{Job}
use Rattle.revision_jobs.specs.declared.post.Sent.{Sent}
use Rattle.revision_jobs.specs.declared.post.Sent.TheVariants.{Taken, Full, Closed}
use Rattle.job_pool.proofs.post.PoolPostPost.TheImpl.Goals as goal

-- what an offer does to the sender's list, it does to the floor
sent_of : (job : Job) (before after : List Slip) (r : Sent) → IsOffered job before after r → IsSent job (floor_of before) (floor_of after) r
sent_of job before after Taken e = ap floor_of e ∙ floor_push 0 before (slip_of job)
sent_of job before after (Full back) e = (e.0, ap floor_of e.1)
sent_of job before after (Closed back) e = (e.0, ap floor_of e.1)

pub send-tells : goal.send-tells
send-tells g c = record {
  same = record {
    table = c.ensures.table.0;
    limit = c.ensures.table.1;
    kind = refl;
    asked = ap (λ (h : PostHistory). h.asked) c.ensures.history;
  };
  answers = ap (λ (h : PostHistory). h.answers) c.ensures.history;
  stops = ap (λ (h : PostHistory). h.stops) c.ensures.history;
  sent = sent_of c.args.job c.args.self.now.sent c.new.self.now.sent c.result c.ensures.offered;
  over = ap (λ (h : PostHistory). h.is_over) c.ensures.history;
  prompt = λ e. absurd (true≢false (sym e));
}
