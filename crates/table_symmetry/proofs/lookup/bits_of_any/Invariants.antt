use Rattle.table_symmetry.proofs.Names.{bit_at, get_or, ℕ, ◌<◌, ◌≡◌}
use Rattle.table_symmetry.proofs.lookup.bits_of_any.Given as goal

-- the words so far have none of the bits that are 0
abbrev pub invariant-loop-word : goal.invariant-loop-word
invariant-loop-word l =
    (bit : ℕ) → bit_at l.bits bit ≡ 0 → (place : ℕ) → place < l.word-index → bit_at (get_or l.words place 0) bit ≡ 0
