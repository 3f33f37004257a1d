use Rattle.plane_core.proofs.Names.{AreFilled, false, length, root_level, world_of_rows, ◌<◌, ◌^◌, ◌≡◌}
use Rattle.plane_core.proofs.centre.add_centres.Given as goal

abbrev pub invariant-loop-row : goal.invariant-loop-row
invariant-loop-row l = record {
  filled : AreFilled l.rows.items;
  few : length l.rows.items < 2 ^ 32;
  world : world_of_rows l.rows.items ≡ world_of_rows l.initial.rows.items;
  none : l.added ≡ false → l.rows.items ≡ l.initial.rows.items;
}

abbrev pub decreases-loop-row : goal.decreases-loop-row
decreases-loop-row l = root_level l.rows.items
