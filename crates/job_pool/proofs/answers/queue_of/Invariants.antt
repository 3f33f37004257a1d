use Rattle.job_pool.proofs.Names.{All, Some, Terms, vec_len, ◌≡◌}
use Rattle.crossbeam_channel.specs.Claims.{view, IsSeatAt}
use Rattle.crossbeam_channel.specs.Ends.{sends_on}
use Rattle.job_pool.proofs.answers.queue_of.Given as goal

abbrev pub invariant-senders : goal.invariant-senders
invariant-senders g l = record {
  seat : IsSeatAt (sends_on l.end) l.pass;
  known : view l.pass ≡ Some g.K.Naming.terms;
  many : vec_len l.all ≡ l.made;
  new : All (λ (s : Terms). s ≡ g.K.Naming.terms) l.all.items;
}
