use Rattle.square_table.proofs.Names.{IsUsed, length, way, ◌<◌, ◌≡◌}
use Rattle.square_table.proofs.slots.free_slot.Given as goal

abbrev pub invariant-loop : goal.invariant-loop
invariant-loop l = record {
  at : l.at ≡ way l.mark (length l.slots) l.counter;
  inside : l.at < length l.slots;
  used : IsUsed l.slots l.mark l.counter;
}
