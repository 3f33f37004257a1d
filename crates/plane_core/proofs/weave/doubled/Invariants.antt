use Rattle.plane_core.proofs.Names.{AreMadeTo, ◌*◌, ◌+◌, ◌-◌, ◌^◌, ◌≤◌}
use Rattle.plane_core.proofs.Strips.{AreSameFrom}
use Rattle.plane_core.proofs.weave.doubled.Given as goal

-- what stands before (x, y) is made, and what is left of both rows says the same as all strips
abbrev pub invariant-squares : goal.invariant-squares
invariant-squares l = record {
  made : AreMadeTo l.fn.rows.items l.rows.items l.level l.strips l.found.items l.x l.y;
  north : AreSameFrom l.strips l.north (2 * l.x) (2 * l.y);
  south : AreSameFrom l.strips l.south (2 * l.x) (2 * l.y + 1);
  across : l.x ≤ 2 ^ 31;
  down : l.y ≤ 2 ^ 31;
}

abbrev pub decreases-squares : goal.decreases-squares
decreases-squares l = 2 ^ 33 * (2 ^ 32 - l.y) + (2 ^ 32 - l.x)
