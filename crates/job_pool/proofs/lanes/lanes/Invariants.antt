use Rattle.job_pool.proofs.Names.{All, Entries, Taking, vec_len, ◌+◌, ◌≡◌}
use Rattle.job_pool.proofs.lanes.lanes.Given as goal

abbrev pub invariant-workers : goal.invariant-workers
invariant-workers l = record {
  steps : All (λ (t : Taking). t.table ≡ l.entries) l.step_takers.items;
  views : All (λ (t : Taking). t.table ≡ l.entries) l.view_takers.items;
  inboxes : All (λ (i : Entries). i ≡ l.entries) l.inboxes.items;
  steps_left : l.made + vec_len l.step_takers ≡ l.workers;
  views_left : l.made + vec_len l.view_takers ≡ l.workers;
  inboxes_made : vec_len l.inboxes ≡ l.made;
}
