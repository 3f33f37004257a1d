use Rattle.job_pool.proofs.Names.{IfSome, IsOf, terms_of, ◌≡◌}
use Rattle.job_pool.proofs.worker.work_alike.Given as goal

abbrev pub invariant-loop : goal.invariant-loop
invariant-loop g l = record {
  jobs : l.jobs ≡ l.entries;
  back : l.back ≡ terms_of l.entries l.squares;
  limit : l.engine.limit ≡ l.squares;
  own : IfSome l.next (λ job. IsOf l.entries job.place);
}
