-- What a line says one after another.
use Rattle.std.specs.Prelude.{ℕ, ◌==◌, ◌&&◌, not, if◌then◌else◌, List, [], ◌∷◌, map, nat_le}
use Rattle.std.specs.List.{list_any, slice_split}
use Rattle.text_lines.specs.Blanks.{trim}

-- what stands between the commas of a text, without the blanks around it
abbrev pub parts : List ℕ → List (List ℕ)
parts text = map trim (slice_split (λ b. b == 44) text)

-- each byte by itself
abbrev pub single_bytes : List ℕ → List (List ℕ)
single_bytes line = map (λ b. b ∷ []) line

-- the entries that a line has: what stands between its commas, or, in a line without commas, each
-- byte, where ten states at most have a digit each
abbrev pub fields : ℕ → List ℕ → List (List ℕ)
fields states line =
    if nat_le states 10 && not (list_any (λ b. b == 44) line) then single_bytes line else parts line
