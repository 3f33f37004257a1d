use Rattle.table_symmetry.proofs.Names.{arith, bit_at-zero, bit_at_or, cases_lt, get_or, get_or_past, inl, inr, ◌≡◌}
use Rattle.table_symmetry.proofs.lookup.bits_of_any.Goals as goal

pub loop-word-preserved : goal.loop-word-preserved
loop-word-preserved c = λ bit none place below.
    let word = get_or c.args.words.now c.loop-word.word-index 0 in
    let both = bit_at_or c.loop-word.bits word bit in
    elim (cases_lt place c.loop-word.word-index) [
      | inl low ↦ c.loop-word.invariant bit (omega (arith, both, none)) place low
      | inr high ↦ let here : c.loop-word.word-index ≡ place = omega arith in rw (← here) (omega (arith, both, none))
    ]

pub returns : goal.returns
returns c = λ bit none place. grind (arith, c.loop-word.invariant bit none place, get_or_past c.args.words.now place 0, bit_at-zero bit)
