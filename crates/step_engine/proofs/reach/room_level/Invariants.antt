use Rattle.step_engine.proofs.Names.{HasRoomFor, ℕ, ◌-◌, ◌≤◌}
use Rattle.step_engine.proofs.reach.room_level.Given as goal

abbrev pub invariant-loop-k : goal.invariant-loop-k
invariant-loop-k l = record {
  few : l.k ≤ 61;
  least : (j : ℕ) → HasRoomFor l.generations j l.plane → l.k ≤ j;
}

abbrev pub decreases-loop-k : goal.decreases-loop-k
decreases-loop-k l = 62 - l.k
