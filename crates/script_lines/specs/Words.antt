-- Words, which spaces separate.
use Rattle.std.specs.Prelude.{◌≡◌, ℕ, ◌==◌, ◌<◌, List, [], ◌∷◌, Bool, true, false, filter, length, if◌then◌else◌}
use Rattle.std.specs.List.{slice_split, join_with_byte}

-- a word has a byte at least
abbrev pub is_word : List ℕ → Bool
is_word [] = false
is_word (b ∷ bs) = true

-- the words of some bytes: what stands between spaces
abbrev pub words : List ℕ → List (List ℕ)
words bytes = filter is_word (slice_split (λ b. b == 32) bytes)

-- the words, with one space between each two
abbrev pub squashed : List ℕ → List ℕ
squashed bytes = join_with_byte 32 (words bytes)

-- the first word, and what stands behind it
pub record FirstWord (bytes word rest : List ℕ) : Type 0 where
  pub split : words bytes ≡ word ∷ words rest
  pub shorter : length rest < length bytes

-- no space stands first, unless there is no byte
abbrev pub starts_in_word : List ℕ → Bool
starts_in_word [] = false
starts_in_word (b ∷ bs) = if b == 32 then false else true
