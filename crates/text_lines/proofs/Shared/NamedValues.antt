-- Lines of a name, a sign and a value, by where the sign stands.
use Rattle.text_lines.proofs.Names.{AllByRecursion, List, None, Some, [], ap, ap₂, arith, decimal, drop, false, nat_tests, refl, take, trim_end, trim_start, true, ℕ, ◌++◌, ◌+◌, ◌==◌, ◌∙◌, ◌∷◌, ◌≡◌}
use Rattle.std.specs.Option.{option_map}
use Rattle.std.proofs.Math.Seq.{drop-append-add, take-append_seam}
use Rattle.text_lines.specs.NamedValues.{named_value}
use Rattle.text_lines.proofs.Shared.ByteRanges.{digit-visible, visible-solid}
use Rattle.text_lines.proofs.Shared.Decimals.{IsNumeral, IsWide, decimal-numeral}
use Rattle.text_lines.proofs.Shared.Pieces.{position-at, position-none}

-- no byte is this sign
abbrev pub HasNoSign : ℕ → List ℕ → Type 0
HasNoSign sign bs = AllByRecursion (λ b. (b == sign) ≡ false) bs

-- a line without the sign names no value
pub named_value-none : (sign : ℕ) (line : List ℕ) → HasNoSign sign line → named_value sign line ≡ None
named_value-none sign line h = ap (option_map (λ at. (trim_end (take at line), trim_start (drop (at + 1) line)))) (position-none (λ b. b == sign) line h)

-- a name, the sign and a value
pub named_value-at : (sign : ℕ) (name value : List ℕ) → HasNoSign sign name → named_value sign (name ++ sign ∷ value) ≡ Some (trim_end name, trim_start value)
named_value-at sign name value h =
    let line = name ++ sign ∷ value in
    let itself : (sign == sign) ≡ true = grind (arith, nat_tests) in
    ap (option_map (λ at. (trim_end (take at line), trim_start (drop (at + 1) line)))) (position-at (λ b. b == sign) name sign value h itself)
    ∙ ap₂ (λ before behind. Some (trim_end before, trim_start behind)) (take-append_seam name (sign ∷ value)) (drop-append-add name (sign ∷ value) 1)

-- digits stand as they are behind a sign
trim_start-digits : (ds : List ℕ) → IsNumeral ds → trim_start ds ≡ ds
trim_start-digits [] h = refl
trim_start-digits (d ∷ ds) h = let digits = h.digits in rw (visible-solid d (digit-visible d digits.0)) refl

-- so does a number in decimal
pub named_value-decimal : (sign : ℕ) (name : List ℕ) (n : ℕ) → HasNoSign sign name → IsWide n → named_value sign (name ++ sign ∷ decimal n) ≡ Some (trim_end name, decimal n)
named_value-decimal sign name n h wide =
    named_value-at sign name (decimal n) h ∙ ap (λ value. Some (trim_end name, value)) (trim_start-digits (decimal n) (decimal-numeral n wide))
