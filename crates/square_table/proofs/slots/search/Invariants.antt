use Rattle.square_table.proofs.Names.{kids_of, length, way, ◌<◌, ◌≡◌}
use Rattle.square_table.proofs.Probing.{HasPassed}
use Rattle.square_table.proofs.slots.search.Given as goal

abbrev pub invariant-loop : goal.invariant-loop
invariant-loop l = record {
  at : l.at ≡ way l.mark (length l.slots) l.counter;
  inside : l.at < length l.slots;
  passed : HasPassed (kids_of l.rows) l.slots l.kids l.mark l.counter;
}
