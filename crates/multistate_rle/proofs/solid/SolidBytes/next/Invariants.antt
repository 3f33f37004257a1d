use Rattle.multistate_rle.proofs.Names.{length, solid_from, ◌+◌, ◌<◌, ◌^◌, ◌≡◌}
use Rattle.multistate_rle.proofs.solid.SolidBytes.next.Given as goal

abbrev pub invariant-loop-self : goal.invariant-loop-self
invariant-loop-self l = record {
  left : solid_from l.self-inside.offset l.self-inside.left.now ≡ l.fn.self;
  short : l.self-inside.offset + length l.self-inside.left.now < 2 ^ 64;
}

abbrev pub decreases-loop-self : goal.decreases-loop-self
decreases-loop-self l = length l.self-inside.left.now
