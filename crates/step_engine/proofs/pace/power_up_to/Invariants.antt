use Rattle.std.proofs.Common.{◌≤◌, ◌-◌}
use Rattle.step_engine.proofs.pace.power_up_to.Given as goal

abbrev pub invariant-loop-power : goal.invariant-loop-power
invariant-loop-power l = (1 ≤ l.power) × (l.power ≤ l.most)

abbrev pub decreases-loop-power : goal.decreases-loop-power
decreases-loop-power l = l.most - l.power
