-- The bits of a set's words.
use Rattle.table_lines.proofs.Names.{Bool, List, arith, bit_at, bit_at-suc, bit_at_lowest, cond, has, map, nat_tests, range_with_len, suc, zero, ℕ, ◌*◌, ◌+◌, ◌/◌, ◌<◌, ◌==◌, ◌≡◌}
use Rattle.table_lines.specs.States.{number_of_bits, word_of}

-- the bits of a number are the digits that it was made of
bit-number : (f : ℕ → Bool) (a n i : ℕ) → i < n → (bit_at (number_of_bits (map f (range_with_len a n))) i == 1) ≡ f (a + i)
unfolding number_of_bits
bit-number f a zero i h = absurd (omega arith)
bit-number f a (suc n) zero h =
    let here : a + 0 ≡ a = omega arith in
    rw (bit_at_lowest, here) (grind (arith, nat_tests))
bit-number f a (suc n) (suc i) h =
    let there : a + 1 + i ≡ a + suc i = omega arith in
    let others = number_of_bits (map f (range_with_len (a + 1) n)) in
    let half : (cond (f a) 1 0 + 2 * others) / 2 ≡ others = grind arith in
    rw (bit_at-suc, half, ← there) (bit-number f (a + 1) n i (omega arith))

-- a word tells which of 64 states a set has
pub bit-word : (states : List ℕ) (q i : ℕ) → i < 64 → (bit_at (word_of states q) i == 1) ≡ has states (64 * q + i)
unfolding word_of
bit-word states q i h = bit-number (has states) (64 * q) 64 i h
