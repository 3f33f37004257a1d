-- The number that a text says.
use Rattle.std.specs.Prelude.{◌≤◌, ℕ, List}
use Rattle.std.specs.Str.Parse.{IsNumeral, digits_value, without_leading_plus}

-- the number whose digits the text has, behind at most one `+`
abbrev pub number_in : List ℕ → ℕ
number_in text = digits_value 10 (without_leading_plus text)

-- the text has such digits, and the number lies within these bounds
abbrev pub IsNumberWithin : ℕ → ℕ → List ℕ → Type 0
IsNumberWithin least most text =
    IsNumeral 10 (without_leading_plus text) × (least ≤ number_in text) × (number_in text ≤ most)
