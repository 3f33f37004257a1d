-- Lines of numbers in decimal.
use Rattle.macrocell_lines.proofs.Names.{AllByRecursion, IsWide, Parts, Some, [], ap, arith, decimal, differs, five_in, five_numbers, min, number_in, number_of-decimal, numbers_line, option_map, refl, words-numbers, ℕ, ◌-◌, ◌==◌, ◌^◌, ◌∙◌}
use Rattle.macrocell_lines.proofs.Names.{◌∷◌, ◌≡◌, ◌≤◌}

parts-words : Parts (λ b. b == 32)
parts-words = record { space = refl; digit = λ b h. let low : 48 ≤ b = h.0 in differs b 32 (λ e. omega arith) }

-- a number reads back
pub number_in-decimal : (n : ℕ) → IsWide n → number_in (decimal n) ≡ Some n
number_in-decimal n h =
    let same : min (2 ^ 64 - 1) n ≡ n = omega arith in
    ap (option_map (min (2 ^ 64 - 1))) (number_of-decimal n h) ∙ ap (λ m. Some m) same

-- five numbers read back
pub five-written : (level nw ne sw se : ℕ) → AllByRecursion IsWide (level ∷ nw ∷ ne ∷ sw ∷ se ∷ []) → five_numbers (numbers_line (level ∷ nw ∷ ne ∷ sw ∷ se ∷ [])) ≡ Some (record { level = level; nw = nw; ne = ne; sw = sw; se = se })
five-written level nw ne sw se h =
    ap five_in (words-numbers (λ b. b == 32) parts-words level (nw ∷ ne ∷ sw ∷ se ∷ []) h)
    ∙ rw (number_in-decimal level h.0) (rw (number_in-decimal nw h.1.0) (rw (number_in-decimal ne h.1.1.0) (rw (number_in-decimal sw h.1.1.1.0) (rw (number_in-decimal se h.1.1.1.1.0) refl))))
