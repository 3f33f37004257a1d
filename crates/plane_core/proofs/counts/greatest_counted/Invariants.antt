use Rattle.std.proofs.Common.{◌≡◌, ℕ, ◌<◌, slice_index}
use Rattle.plane_core.proofs.counts.greatest_counted.Given as goal

abbrev pub invariant-loop-state : goal.invariant-loop-state
invariant-loop-state l = (r : ℕ) → l.state < r → r < 256 → slice_index l.counts r ≡ 0

abbrev pub decreases-loop-state : goal.decreases-loop-state
decreases-loop-state l = l.state
