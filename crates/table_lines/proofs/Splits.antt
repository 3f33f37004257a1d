-- What stands between commas, one after another.
use Rattle.table_lines.proofs.Names.{List, None, Some, [], ap, count_by, drop, length, length-map, length-slice_split, map, parts, position, slice_split, split-none, split-some, take, trim, ℕ, ◌+◌, ◌==◌, ◌∙◌, ◌∷◌, ◌≡◌}

pub parts-some : (line : List ℕ) (n : ℕ) → position (λ b. b == 44) line ≡ Some n → parts line ≡ trim (take n line) ∷ parts (drop (n + 1) line)
parts-some line n h = ap (map trim) (split-some (λ b. b == 44) line n h)

pub parts-none : (line : List ℕ) → position (λ b. b == 44) line ≡ None → parts line ≡ trim line ∷ []
parts-none line h = ap (map trim) (split-none (λ b. b == 44) line h)

pub length-parts : (line : List ℕ) → length (parts line) ≡ count_by (λ b. b == 44) line + 1
length-parts line = length-map (slice_split (λ b. b == 44) line) trim ∙ length-slice_split (λ b. b == 44) line
