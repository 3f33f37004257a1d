use Rattle.plane_core.proofs.Names.{AreRows, length, root_level, world_of_rows, ◌-◌, ◌<◌, ◌^◌, ◌≡◌}
use Rattle.plane_core.proofs.lay.raise_around.Given as goal

abbrev pub invariant-loop-rows : goal.invariant-loop-rows
invariant-loop-rows l = record {
  valid : AreRows l.rows.items;
  few : length l.rows.items < 2 ^ 32;
  world : world_of_rows l.rows.items ≡ world_of_rows l.initial.rows.items;
}

abbrev pub decreases-loop-rows : goal.decreases-loop-rows
decreases-loop-rows l = 62 - root_level l.rows.items
