use Rattle.std.proofs.Common.{◌<◌, length}
use Rattle.square_table.proofs.slots.marked.Given as goal

abbrev pub invariant-loop : goal.invariant-loop
invariant-loop l = record { inside : l.at < length l.slots }
