use Rattle.std.proofs.Common.{◌≡◌, [], true, Some, vec_len}
use Rattle.std.specs.Prelude.{All}
use Rattle.crossbeam_channel.specs.Claims.{view, IsSeatAt}
use Rattle.crossbeam_channel.specs.Ends.{sends_on}
use Rattle.job_queue.specs.Balance.{end_view}
use Rattle.job_queue.specs.Ends.{Taking, new_taker, queue_at}
use Rattle.job_queue.proofs.queue.queue_of.Given as goal

abbrev pub invariant-takers : goal.invariant-takers
invariant-takers g l = record {
  seat : IsSeatAt (sends_on l.end) l.pass;
  known : view l.pass ≡ end_view true [] [] (Some g.K.Naming.table) 0 l.made;
  many : vec_len l.all ≡ l.made;
  new : All (λ (t : Taking). t ≡ new_taker (queue_at (sends_on l.end)) g.K.Naming.table) l.all.items;
}
