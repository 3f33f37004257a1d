use Rattle.job_pool.proofs.Names.{All, Entries, Terms, terms_of, vec_len, ◌+◌, ◌≡◌}
use Rattle.job_pool.proofs.crew.start_all.Given as goal

abbrev pub invariant-crew : goal.invariant-crew
invariant-crew g l = record {
  inboxes : All (λ (i : Entries). i ≡ l.entries) l.inboxes.items;
  senders : All (λ (s : Terms). s ≡ terms_of l.entries l.squares) l.senders.items;
  gates_left : l.made + vec_len l.gates ≡ l.count;
  inboxes_left : l.made + vec_len l.inboxes ≡ l.count;
  senders_left : l.made + vec_len l.senders ≡ l.count;
}
