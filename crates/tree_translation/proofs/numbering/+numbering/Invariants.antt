use Rattle.tree_translation.proofs.Names.{All, AreNear, GrowsNodes, IfSome, IsEntry, IsNumberOf, false, length, slice_index, ℕ, ◌%◌, ◌*◌, ◌+◌, ◌-◌, ◌/◌, ◌<◌, ◌≡◌, ◌≢◌, ◌≤◌}
use Rattle.tree_translation.proofs.numbering.+numbering.Given as goal

abbrev pub decreases-number_again : goal.decreases-number_again
decreases-number_again l = 3 * (length l.layers.now - l.input) + 2

abbrev pub decreases-number_of : goal.decreases-number_of
decreases-number_of l = 3 * (length l.layers.now - l.input) + 1

abbrev pub decreases-entries_of : goal.decreases-entries_of
decreases-entries_of l = 3 * (length l.layers.now - l.input)

abbrev pub invariant-entries_of-loop-state : goal.invariant-entries_of-loop-state
invariant-entries_of-loop-state l = record {
  width : length l.entries.items ≡ l.state;
  each : (s : ℕ) → s < l.state → IsEntry l.states l.layers l.found.nodes.keys l.input l.list s (slice_index l.entries.items s);
  grows : GrowsNodes l.states l.layers l.input (l.input + 1) l.list l.fn.found l.found;
  clear : All (λ b. b ≡ false) l.marks;
  near : l.state % 64 ≢ 0 → AreNear l.layer (l.state / 64) l.list l.near.items;
  until : l.state ≤ l.states;
  latest : IfSome l.latest (λ x. IsNumberOf l.states l.layers l.found.nodes.keys (l.input + 1) x.list.items x.number);
}

abbrev pub decreases-entries_of-loop-state : goal.decreases-entries_of-loop-state
decreases-entries_of-loop-state l = l.states - l.state
