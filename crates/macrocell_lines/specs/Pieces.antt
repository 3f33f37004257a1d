-- The pieces of a line, and the numbers that its words write.
use Rattle.std.specs.Prelude.{ℕ, ◌-◌, ◌^◌, ◌==◌, min, filter, List, [], ◌∷◌, Option, Some, None}
use Rattle.std.specs.List.{slice_split}
use Rattle.std.specs.Option.{option_map}
pub use Rattle.text_lines.specs.Numbers.{is_word}
use Rattle.text_lines.specs.Numbers.{number_of}
use Rattle.macrocell_lines.specs.declared.numbers.FiveNumbers.{FiveNumbers}

-- what f makes of the value, if there is one
infixl 10 ◌>>=◌
abbrev pub ◌>>=◌ : {A B : Type 0} → Option A → (A → Option B) → Option B
None >>= f = None
(Some x) >>= f = f x

-- what stands before, between and behind the separators of a line
abbrev pub pieces : ℕ → List ℕ → List (List ℕ)
pieces separator line = slice_split (λ b. b == separator) line

-- the words of a line, which spaces separate
abbrev pub words : List ℕ → List (List ℕ)
words line = filter is_word (pieces 32 line)

-- the number that digits write; 2^64 - 1 stands for all that are greater too
abbrev pub number_in : List ℕ → Option ℕ
number_in digits = option_map (min (2 ^ 64 - 1)) (number_of digits)

-- the numbers that five words write
abbrev pub five_in : List (List ℕ) → Option FiveNumbers
five_in (level ∷ nw ∷ ne ∷ sw ∷ se ∷ []) = do
  l ← number_in level
  a ← number_in nw
  b ← number_in ne
  c ← number_in sw
  d ← number_in se
  Some (record { level = l; nw = a; ne = b; sw = c; se = d })
five_in _ = None

-- the numbers of a line that says five
abbrev pub five_numbers : List ℕ → Option FiveNumbers
five_numbers line = five_in (words line)
