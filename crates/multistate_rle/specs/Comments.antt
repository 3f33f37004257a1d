-- Comment lines that say where a pattern lies and which generation it is.
use Rattle.std.specs.Prelude.{ℕ, ◌-◌, ◌^◌, ◌==◌, ◌||◌, ◌&&◌, Bool, true, min, ℤ, pos, neg_ℤ, int_le, int_lt, List, [], ◌∷◌, codes, fold, Option, Some, None, if◌then◌else◌}
use Rattle.std.specs.List.{slice_split}
use Rattle.std.specs.Option.{option_map, option_map_or}
use Rattle.text_lines.specs.Blanks.{is_blank}
use Rattle.text_lines.specs.Numbers.{number_of}
use Rattle.multistate_rle.specs.declared.comment.Origin.{Origin}
use Rattle.multistate_rle.specs.Cut.{◌>>=◌, after, cut_at}

-- a sign, around which blanks mean nothing
abbrev pub is_sign : ℕ → Bool
is_sign b = (b == 61) || (b == 44)

-- nothing, a blank or a sign comes first
abbrev pub starts_loose : List ℕ → Bool
starts_loose [] = true
starts_loose (b ∷ bs) = is_blank b || is_sign b

-- the bytes with one blank between two words and none around signs; `joined` says that nothing or a
-- sign stands before them
abbrev pub tight : Bool → List ℕ → List ℕ
tight joined [] = []
tight joined (b ∷ bs) =
    if is_blank b then (if joined || starts_loose bs then tight joined bs else b ∷ tight joined bs)
    else b ∷ tight (is_sign b) bs

-- the parts of a comment, which blanks separate
abbrev pub parts : List ℕ → List (List ℕ)
parts bytes = slice_split is_blank (tight true bytes)

-- the number that digits, with or without a minus before them, write
abbrev pub signed_of : List ℕ → Option ℤ
signed_of [] = None
signed_of (b ∷ bs) =
    if b == 45 then option_map (λ n. neg_ℤ (pos n)) (number_of bs)
    else option_map pos (number_of (b ∷ bs))

-- the same, of the numbers from -2^63 to 2^63 - 1
abbrev pub coordinate_of : List ℕ → Option ℤ
coordinate_of bytes = do
  z ← signed_of bytes
  if int_le (neg_ℤ (pos (2 ^ 63))) z && int_lt z (pos (2 ^ 63)) then Some z else None

-- the place that a part Pos=x,y gives
abbrev pub place_in : List ℕ → Option (ℤ × ℤ)
place_in part = do
  place ← after (codes "Pos=") part
  cut ← cut_at 44 place
  x ← coordinate_of cut.0
  y ← coordinate_of cut.1
  Some (x, y)

-- the generation that a part Gen=n gives, 2^64 - 1 where n is greater
abbrev pub generation_in : List ℕ → Option ℕ
generation_in part = do
  digits ← after (codes "Gen=") part
  n ← number_of digits
  Some (min (2 ^ 64 - 1) n)

-- the origin where no comment gives one
abbrev pub plain_origin : Origin
plain_origin = record { x = pos 0; y = pos 0; generation = 0 }

-- the origin after one part; one that is malformed or unknown changes nothing
abbrev pub after_part : Origin → List ℕ → Origin
after_part origin part =
    option_map_or (λ place. record { x = place.0; y = place.1; generation = origin.generation })
    (place_in part)
    (option_map_or (λ n. record { x = origin.x; y = origin.y; generation = n })
    (generation_in part) origin)

-- the origin after one comment line, of which only those that begin with #CXRLE change it
abbrev pub after_comment : Origin → List ℕ → Origin
after_comment origin line =
    option_map_or (λ bytes. fold after_part origin (parts bytes)) (after (codes "#CXRLE") line)
    origin
