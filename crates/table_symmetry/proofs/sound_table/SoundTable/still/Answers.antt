use Rattle.std.proofs.Common.{refl, arith}
use Rattle.table_symmetry.proofs.sound_table.SoundTable.still.Goals as goal

pub invariant_of-result : goal.invariant_of-result
invariant_of-result c = rw c.of_head.ensures (record {
  read = record { at_least = omega arith; at_most = omega arith; below = refl; full = refl };
  sound = refl;
  few = omega arith;
})
