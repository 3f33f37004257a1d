use Rattle.plane_core.proofs.Names.{All, IsTrue, Touches, length, take, ◌-◌, ◌↔◌, ◌≤◌}
use Rattle.plane_core.proofs.lay.run_length.Given as goal

abbrev pub invariant-loop-count : goal.invariant-loop-count
invariant-loop-count l = (1 ≤ l.count) × (l.count ≤ length l.spans) × All (λ s. IsTrue l.is_near ↔ Touches l.part s) (take l.count l.spans)

abbrev pub decreases-loop-count : goal.decreases-loop-count
decreases-loop-count l = length l.spans - l.count
