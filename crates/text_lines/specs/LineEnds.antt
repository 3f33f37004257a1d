-- Texts by the ends of their lines.
use Rattle.std.specs.Prelude.{ℕ, ◌==◌, if◌then◌else◌, List, [], ◌∷◌, ◌++◌}
use Rattle.std.specs.List.{flat_map}

-- lines, of which a line feed ends each
abbrev pub text_of_lines : List (List ℕ) → List ℕ
text_of_lines lines = flat_map (λ line. line ++ 10 ∷ []) lines

-- the text with a carriage return directly before each line feed
abbrev pub with_carriage_returns : List ℕ → List ℕ
with_carriage_returns [] = []
with_carriage_returns (b ∷ bs) =
    if b == 10 then 13 ∷ 10 ∷ with_carriage_returns bs else b ∷ with_carriage_returns bs
