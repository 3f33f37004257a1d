-- The last line of a section.
use Rattle.decision_tree.proofs.Names.{List, NumberedLine, Some, [], arith, common_steps, last_number, length, slice_get, ℕ, ◌-◌, ◌∷◌, ◌≡◌}

pub last_number-some : (opened : ℕ) (lines : List NumberedLine) (line : NumberedLine) → slice_get lines (length lines - 1) ≡ Some line → line.number ≡ last_number opened lines
last_number-some opened [] line h = absurd cc
last_number-some opened (a ∷ []) line h = cc
last_number-some opened (a ∷ b ∷ lines) line h = grind (arith, common_steps, last_number-some a.number (b ∷ lines) line)
