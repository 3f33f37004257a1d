use Rattle.tree_translation.proofs.Names.{None, Some, drop, first_some, if◌then◌else◌, lets, rest_at, ◌≡◌}
use Rattle.tree_translation.proofs.numbering.first_result.Given as goal

abbrev pub invariant-loop-number : goal.invariant-loop-number
invariant-loop-number l = first_some (λ n. if lets l.layer n l.state then Some (rest_at l.layer n) else None) (drop l.number-index l.list) ≡ first_some (λ n. if lets l.layer n l.state then Some (rest_at l.layer n) else None) l.list
