-- Words of bits: those of a column tell which rows have a state.
use Rattle.table_symmetry.proofs.Names.{Expanded, HasBits, List, TellsRows, [], ap, arith, bit_at, bit_at-lt, bit_at-zero, bit_at_or, bit_at_set_other, bit_at_set_same, cases_lt, get_or, get_or-map, get_or_append_left, get_or_push, inl}
use Rattle.table_symmetry.proofs.Names.{inr, length, length-map, length_push, set_at, suc, w64, word_of, word_of_each, zero, ℕ, ◌%◌, ◌*◌, ◌++◌, ◌+◌, ◌/◌, ◌<◌, ◌^◌, ◌∙◌, ◌∷◌, ◌≡◌, ◌≢◌, ◌≤◌}
use Rattle.std.specs.Int.RustNames.{bit_or}
use Rattle.table_lines.proofs.Shared.WordBits.{bit-word}

-- a bit put at a place of a word where there is none
put_bit : (n b p : ℕ) → b < 2 → p < 64 → bit_at n p ≡ 0
    → (bit_at (bit_or n (b * 2 ^ p % 18446744073709551616)) p ≡ b) × ((i : ℕ) → i ≢ p → bit_at (bit_or n (b * 2 ^ p % 18446744073709551616)) i ≡ bit_at n i)
put_bit n zero p h k e = (grind (arith, bit_at_or n 0 p, bit_at-zero p), λ i ne. grind (arith, bit_at_or n 0 i, bit_at-zero i))
put_bit n (suc zero) p h k e = (bit_at_set_same w64 n p k, bit_at_set_other w64 n p k)
put_bit n (suc (suc b)) p h k e = absurd (omega arith)

-- the lowest bits are one bit of each of the first words, and the others are 0
pub record IsPacked (words : List ℕ) (bit : ℕ) (packed count : ℕ) : Type 0 where
  pub low : (k : ℕ) → k < count → bit_at packed k ≡ bit_at (get_or words k 0) bit
  pub high : (k : ℕ) → count ≤ k → bit_at packed k ≡ 0

pub IsPacked-more : (words : List ℕ) (bit packed count b : ℕ) → count < 64 → b ≡ bit_at (get_or words count 0) bit → IsPacked words bit packed count
    → IsPacked words bit (bit_or packed (b * 2 ^ count % 18446744073709551616)) (count + 1)
IsPacked-more words bit packed count b h e p =
    let put = put_bit packed b count (rw e (bit_at-lt _ _)) h (p.high count (omega arith)) in
    record { low = λ k l. grind (arith, put.0, put.1 k, p.low k); high = λ k l. grind (arith, put.1 k, p.high k) }

-- a bit of a word of each row's set tells which of them have the state
pub column_tells : (rows : List Expanded) (place state : ℕ) (words column : List ℕ) → words ≡ word_of_each place (state / 64) rows → HasBits column words (state % 64) → TellsRows rows place state column
column_tells rows place state words column is bits row d l =
    let number : 64 * (state / 64) + state % 64 ≡ state = omega arith in
    let word = get_or-map (λ r. word_of (set_at place r) (state / 64)) rows row d 0 l in
    rw (bits row (rw (is, length-map) l), is, word, bit-word (set_at place (get_or rows row d)) (state / 64) (state % 64) (omega arith), number)

-- so many elements, each right at its place
pub record AreRight {X : Type 0} (P : ℕ → X → Type 0) (d : X) (xs : List X) (n : ℕ) : Type 0 where
  pub long : length xs ≡ n
  pub each : (k : ℕ) → k < n → P k (get_or xs k d)

pub AreRight-more : {X : Type 0} (P : ℕ → X → Type 0) (d x : X) (xs after : List X) (n : ℕ) → P n x → after ≡ xs ++ x ∷ [] → AreRight P d xs n → AreRight P d after (n + 1)
AreRight-more P d x xs after n last same a = record {
  long = ap length same ∙ length_push xs x ∙ omega (arith, a.long);
  each = λ k l. rw same (elim (cases_lt k n) [
    | inl low ↦ rw (get_or_append_left xs (x ∷ []) d k (omega (arith, a.long))) (a.each k low)
    | inr high ↦ let here : n ≡ k = omega arith in rw (get_or_push xs x d k (a.long ∙ here), ← here) last
  ]);
}
