use Rattle.std.proofs.Common.{◌≡◌, map, take}
use Rattle.test_planes.specs.Rows.{set_of}
use Rattle.test_planes.proofs.rows.sets_of.Given as goal

abbrev pub invariant-loop-row : goal.invariant-loop-row
invariant-loop-row l = l.sets.items ≡ map set_of (take l.row-index l.rows)
