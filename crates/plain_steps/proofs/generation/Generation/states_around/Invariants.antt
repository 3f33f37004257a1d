use Rattle.plain_steps.proofs.Names.{around, length, take, ◌≡◌}
use Rattle.plain_steps.proofs.generation.Generation.states_around.Given as goal

abbrev pub invariant-loop-i : goal.invariant-loop-i
invariant-loop-i l = record {
  states : take l.i l.states ≡ take l.i (around l.self l.spot.x l.spot.y);
  nine : length l.states ≡ 9;
}
