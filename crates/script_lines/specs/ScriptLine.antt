-- What a line of a script says.
use Rattle.std.specs.Prelude.{◌≡◌, ℕ, ◌==◌, List, [], ◌∷◌, Bool, true, false, codes}
use Rattle.std.specs.List.{flat_map}
use Rattle.std.specs.Str.{bytes_eq}
use Rattle.text_lines.specs.Lines.{Line}
use Rattle.script_lines.specs.Words.{squashed}

-- blank lines and comments, which begin with #, are passed over
abbrev pub is_passed_over : List ℕ → Bool
is_passed_over [] = true
is_passed_over (b ∷ bs) = b == 35

-- the line that ends a text is just the word `end`
abbrev pub is_end : List ℕ → Bool
is_end says = bytes_eq (squashed says) (codes "end")

-- none of these lines ends a text
abbrev pub NoneEnds : List Line → Type 0
NoneEnds [] = Unit {0}
NoneEnds (line ∷ lines) = (is_end line.says ≡ false) × NoneEnds lines

-- the bytes of these lines, with their ends
abbrev pub raw_bytes : List Line → List ℕ
raw_bytes lines = flat_map (λ line. line.raw) lines
