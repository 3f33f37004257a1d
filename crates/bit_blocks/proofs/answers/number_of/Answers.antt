use Rattle.std.proofs.Common.{arith}
use Rattle.hash_life_laws.specs.Puts.{IsBelow}
use Rattle.bit_blocks.proofs.Bits.{two_of-bits}
use Rattle.bit_blocks.proofs.answers.number_of.Goals as goal
use Rattle.bit_blocks.proofs.answers.number_of.Goals.{then-nw-gt1-via-then-nw-gt1, then-nw-gt1-via-else-nw-gt1+then-ne-gt1, then-nw-gt1-via-else-nw-gt1+else-ne-gt1+then-sw-gt1}
use Rattle.bit_blocks.proofs.answers.number_of.Goals.{then-nw-gt1-via-else-nw-gt1+else-ne-gt1+else-sw-gt1+then-se-gt1}

pub returns-then-nw-gt1-clause-answer : goal.returns-then-nw-gt1-clause-answer
unfolding IsBelow
returns-then-nw-gt1-clause-answer c = record {
  two = λ small. absurd (omega arith);
  beyond = λ high known below.
      elim c.then-nw-gt1.branch [
        | then-nw-gt1-via-then-nw-gt1 w ↦ omega (arith, below.0)
        | then-nw-gt1-via-else-nw-gt1+then-ne-gt1 w ↦ omega (arith, below.1)
        | then-nw-gt1-via-else-nw-gt1+else-ne-gt1+then-sw-gt1 w ↦ omega (arith, below.2)
        | then-nw-gt1-via-else-nw-gt1+else-ne-gt1+else-sw-gt1+then-se-gt1 w ↦ omega (arith, below.3)
      ];
}

pub returns-clause-answer : goal.returns-clause-answer
returns-clause-answer c = record {
  two = λ small. two_of-bits _ _ _ _ (omega arith) (omega arith) (omega arith) (omega arith);
  beyond = λ high. absurd (omega arith);
}
