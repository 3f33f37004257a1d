use Rattle.square_table.proofs.Names.{FindsRows, kids_of, length, ◌≡◌}
use Rattle.square_table.proofs.slots.spread.Given as goal

abbrev pub invariant-loop-place : goal.invariant-loop-place
invariant-loop-place l = record {
  finds : FindsRows (kids_of l.rows) l.place l.wider;
  count : length l.wider ≡ length l.initial.wider;
}
