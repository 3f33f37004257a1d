use Rattle.tree_translation.proofs.Names.{None, Some, first_some, if◌then◌else◌, length, lets, rest_at, slice_index, unwrap_or, ℕ, ◌<◌, ◌≡◌}
use Rattle.tree_translation.proofs.numbering.leaf_of.Given as goal

abbrev pub invariant-loop-state : goal.invariant-loop-state
invariant-loop-state l = record {
  width : length l.leaf.items ≡ l.state;
  each : (s : ℕ) → s < l.state → slice_index l.leaf.items s ≡ unwrap_or (first_some (λ number. if lets l.layer number s then Some (rest_at l.layer number) else None) l.list) s;
}
