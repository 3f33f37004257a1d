-- Decimal numbers, and lines of them.
use Rattle.std.specs.Prelude.{ℕ, List, [], ◌∷◌, map, decimal, Bool, true, false, Option, Some, None, if◌then◌else◌}
use Rattle.std.specs.List.{join_with_byte, list_all}
use Rattle.std.specs.Char.{is_ascii_digit}
use Rattle.std.specs.Str.Parse.{digits_value}

-- one byte or more, each a decimal digit
abbrev pub are_digits : List ℕ → Bool
are_digits [] = false
are_digits (b ∷ bs) = list_all is_ascii_digit (b ∷ bs)

-- the number that decimal digits write, of any length and with zeros before it; other bytes write
-- none
abbrev pub number_of : List ℕ → Option ℕ
number_of bs = if are_digits bs then Some (digits_value 10 bs) else None

-- numbers in decimal, with a space between each two
abbrev pub numbers_line : List ℕ → List ℕ
numbers_line numbers = join_with_byte 32 (map decimal numbers)

-- a word has a byte at least
abbrev pub is_word : List ℕ → Bool
is_word [] = false
is_word (b ∷ bs) = true
