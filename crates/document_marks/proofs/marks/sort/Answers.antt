use Rattle.document_marks.proofs.Names.{always_returns_same, mark_rank, rules}
use Rattle.document_marks.proofs.marks.sort.Goals as goal

pub returns-in-Ok-clause-sorted : goal.returns-in-Ok-clause-sorted
returns-in-Ok-clause-sorted c =
    c.in-Ok.ensures.sorted mark_rank (always_returns_same _ _ _ (λ a r q k. search rules))

pub returns-in-Err-clause-sorted : goal.returns-in-Err-clause-sorted
returns-in-Err-clause-sorted c =
    c.sort_unstable_by_key.ensures.sorted mark_rank (always_returns_same _ _ _ (λ a r q k. search rules))
