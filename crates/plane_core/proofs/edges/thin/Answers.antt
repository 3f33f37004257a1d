use Rattle.std.proofs.lemmas.List.Filters.{dedup_is}
use Rattle.std.proofs.lemmas.List.Kept.{Contains-dedup_nat, Contains-from_dedup}
use Rattle.std.proofs.lemmas.List.Sorted.{Contains-permutation, IsPermutation-sym}
use Rattle.plane_core.proofs.edges.thin.Goals as goal

pub returns-clause-keeps : goal.returns-clause-keeps
returns-clause-keeps c = λ n h. rw (dedup_is _ _ _ c.dedup.ensures.filtered) (Contains-dedup_nat _ n (Contains-permutation _ _ n c.sort_unstable.ensures.permutation h))

pub returns-clause-adds_none : goal.returns-clause-adds_none
returns-clause-adds_none c = λ n h.
    let is = dedup_is _ _ _ c.dedup.ensures.filtered in
    Contains-permutation _ _ n (IsPermutation-sym _ _ c.sort_unstable.ensures.permutation) (Contains-from_dedup _ _ n (rw is at h))
