-- The numbers that words write.
use Rattle.std.specs.Prelude.{ℕ, ◌==◌, ℤ, pos, neg_ℤ, List, [], ◌∷◌, Option, None, if◌then◌else◌}
use Rattle.std.specs.Option.{option_map}
use Rattle.text_lines.specs.Numbers.{number_of}

-- the whole number that decimal digits write behind one minus sign or none, of any length; other
-- bytes write none
abbrev pub integer_of : List ℕ → Option ℤ
integer_of [] = None
integer_of (b ∷ bs) =
    if b == 45 then option_map (λ n. neg_ℤ (pos n)) (number_of bs)
    else option_map pos (number_of (b ∷ bs))
