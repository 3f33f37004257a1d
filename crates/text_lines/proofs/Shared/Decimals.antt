-- Numbers in decimal: their bytes, and that they read back.
use Rattle.text_lines.proofs.Names.{AllByRecursion, AllDigits, List, Some, [], ap, arith, decimal, digits_value, get_or, is_ascii_digit, length, list_all, min, number_of, refl, rules, take, tests, true, ℕ, ◌*◌, ◌+◌, ◌-◌, ◌<◌, ◌^◌, ◌∙◌, ◌∷◌}
use Rattle.text_lines.proofs.Names.{◌≡◌}
use Rattle.std.proofs.lemmas.Str.{digit_value_digit}
use Rattle.std.proofs.lemmas.Int.Digits.{digits_value_more}
use Rattle.std.proofs.lemmas.Fmt.{decimal_is_IsNumeral}
use Rattle.std.proofs.lemmas.Str.Parse.{digit_from_value}
use Rattle.text_lines.proofs.Shared.ByteRanges.{IsDigit, digit-test}

-- digits, at least one
pub record IsNumeral (ds : List ℕ) : Type 0 where
  pub some : 0 < length ds
  pub digits : AllByRecursion IsDigit ds

-- a number that is written in full
abbrev pub IsWide : ℕ → Type 0
IsWide n = n < 2 ^ 64

digits-bytes : (ds : List ℕ) → AllDigits 10 ds → AllByRecursion IsDigit ds × (list_all is_ascii_digit ds ≡ true)
digits-bytes [] h = (tt, refl)
digits-bytes (d ∷ ds) h = let digit = digit_from_value d h.0 in let more = digits-bytes ds h.1 in ((digit, more.0), rw (digit-test d digit) more.1)

-- a number is written in digits
pub decimal-numeral : (n : ℕ) → IsWide n → IsNumeral (decimal n)
decimal-numeral n h = let is = (decimal_is_IsNumeral n h).0 in record { some = is.0; digits = (digits-bytes (decimal n) is.1).0 }

pub decimal-some : (n : ℕ) → IsWide n → 0 < length (decimal n)
decimal-some n h = (decimal-numeral n h).some

pub decimal-bytes : (n : ℕ) → IsWide n → AllByRecursion IsDigit (decimal n)
decimal-bytes n h = (decimal-numeral n h).digits

-- they are worth that number
pub decimal-value : (n : ℕ) → IsWide n → digits_value 10 (decimal n) ≡ n
decimal-value n h = (decimal_is_IsNumeral n h).1

number_of-digits : (ds : List ℕ) → 0 < length ds → AllDigits 10 ds → number_of ds ≡ Some (digits_value 10 ds)
number_of-digits [] some h = absurd (omega arith)
number_of-digits (d ∷ ds) some h = rw (digits-bytes (d ∷ ds) h).1 refl

-- a number in decimal reads back
pub number_of-decimal : (n : ℕ) → IsWide n → number_of (decimal n) ≡ Some n
number_of-decimal n h = let is = (decimal_is_IsNumeral n h).0 in number_of-digits (decimal n) is.0 is.1 ∙ ap (λ m. Some m) (decimal-value n h)

-- a digit more, where a number past `most` stands at `most`
pub digits_value_more_min : (most : ℕ) (bs : List ℕ) (i : ℕ) → i < length bs → is_ascii_digit (get_or bs i 0) ≡ true
    → min most (digits_value 10 (take (i + 1) bs)) ≡ min (min (min most (digits_value 10 (take i bs)) * 10) most + (get_or bs i 0 - 48)) most
digits_value_more_min most bs i h digit = omega (arith, digit_value_digit (get_or bs i 0) (search (rules, tests)), digits_value_more 10 bs i h)
