-- Sets of states.
use Rattle.std.specs.Prelude.{◌≡◌, ℕ, ◌+◌, ◌*◌, ◌/◌, ◌%◌, ◌^◌, ◌<◌, ◌==◌, Bool, cond, List, [], ◌∷◌, length, map, nat_eq, slice_index, All}
use Rattle.std.specs.Int.{bit_at}
use Rattle.std.specs.Cmp.Lexicographic.{pointwise}
use Rattle.std.specs.List.{filter, list_any, range_with_len}

-- whether a state is one of these
abbrev pub has : List ℕ → ℕ → Bool
has states state = list_any (nat_eq state) states

-- the states that pass a test, rising
unfoldable pub rising : (ℕ → Bool) → List ℕ
rising test = filter test (range_with_len 0 256)

-- whether a bit of some words is set, of 64 in each
abbrev pub is_bit_set : List ℕ → ℕ → Bool
is_bit_set words bit = bit_at (slice_index words (bit / 64)) (bit % 64) == 1

-- four words of 64 bits
pub record AreWords (words : List ℕ) : Type 0 where
  pub four : length words ≡ 4
  pub small : All (λ word. word < 2 ^ 64) words

-- the number of these binary digits, lowest first
unfoldable pub number_of_bits : List Bool → ℕ
number_of_bits [] = 0
number_of_bits (b ∷ bs) = cond b 1 0 + 2 * number_of_bits bs

-- a word of a set: the bits of 64 states
unfoldable pub word_of : List ℕ → ℕ → ℕ
word_of states number = number_of_bits (map (has states) (range_with_len (64 * number) 64))

-- the four words of a set
abbrev pub words_of : List ℕ → List ℕ
words_of states = word_of states 0 ∷ word_of states 1 ∷ word_of states 2 ∷ word_of states 3 ∷ []

-- whether two sets have the same states
abbrev pub same_set : List ℕ → List ℕ → Bool
same_set = pointwise nat_eq
