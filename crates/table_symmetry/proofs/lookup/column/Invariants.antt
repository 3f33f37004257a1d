use Rattle.table_symmetry.proofs.Names.{bit_at, get_or, length, ℕ, ◌%◌, ◌*◌, ◌/◌, ◌<◌, ◌≡◌}
use Rattle.table_symmetry.proofs.lookup.column.Given as goal

-- a word for each 64 of the words
abbrev pub invariant-loop-number : goal.invariant-loop-number
invariant-loop-number l =
    (length l.column.items ≡ l.number)
    × ((row : ℕ) → row < length l.words → row < 64 * l.number → bit_at (get_or l.column.items (row / 64) 0) (row % 64) ≡ bit_at (get_or l.words row 0) l.bit)
