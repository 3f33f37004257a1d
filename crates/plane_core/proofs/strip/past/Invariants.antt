use Rattle.plane_core.proofs.Names.{IsOnward, drop, number_at, ℕ, ◌≡◌}
use Rattle.plane_core.proofs.strip.past.Given as goal

abbrev pub invariant-loop-i : goal.invariant-loop-i
invariant-loop-i l = (a b : ℕ) → IsOnward l.x l.y a b → number_at (drop l.i l.strips) a b ≡ number_at l.strips a b
