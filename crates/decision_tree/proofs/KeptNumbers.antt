-- Numbers that the words of a line write, as they are kept.
use Rattle.decision_tree.proofs.Names.{List, Option, map, option_map, saturated, ℕ, ◌++◌}

-- numbers that are read, with others before them, as they are kept
abbrev pub with_front : List ℕ → Option (List ℕ) → Option (List ℕ)
with_front front read = option_map (λ ns. front ++ map saturated ns) read
