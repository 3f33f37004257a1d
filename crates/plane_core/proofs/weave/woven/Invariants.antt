use Rattle.plane_core.proofs.Names.{AreWoven, blank, drawn, ◌-◌, ◌≤◌}
use Rattle.plane_core.proofs.weave.woven.Given as goal

abbrev pub invariant-loop-level : goal.invariant-loop-level
invariant-loop-level l = record {
  woven : AreWoven l.rows.items l.level l.strips.items (drawn l.spans blank);
  low : l.level ≤ 31;
}

abbrev pub decreases-loop-level : goal.decreases-loop-level
decreases-loop-level l = 31 - l.level
