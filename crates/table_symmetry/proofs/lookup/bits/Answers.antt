use Rattle.table_symmetry.proofs.Names.{arith, bit_at-zero, get_or_past, shr_and_one}
use Rattle.table_symmetry.proofs.Columns.{IsPacked-more}
use Rattle.table_symmetry.proofs.lookup.bits.Goals as goal

pub loop-place-init : goal.loop-place-init
loop-place-init c = record { low = λ k h. absurd (omega arith); high = λ k h. bit_at-zero k }

pub loop-place-preserved : goal.loop-place-preserved
loop-place-preserved c = IsPacked-more c.args.words.now c.args.bit c.loop-place.bits c.loop-place.place _ (omega arith) (shr_and_one _ _) c.loop-place.invariant

pub returns : goal.returns
returns c = λ k. grind (arith, c.loop-place.invariant.low k, c.loop-place.invariant.high k, get_or_past c.args.words.now k 0, bit_at-zero c.args.bit)
