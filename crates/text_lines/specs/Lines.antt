-- The lines of a text.
use Rattle.std.specs.Prelude.{◌≡◌, ℕ, ◌+◌, ◌==◌, List, [], ◌∷◌, ◌++◌, map, false, if◌then◌else◌}
use Rattle.text_lines.specs.Blanks.{trim}

-- how a text stopped: it came to its end, or the reading of it broke off
pub data End : Type 0 where
  Ended : End
  Broken : End

-- a line: what it says, without the blanks at its ends, and its bytes with the line's end
pub record Line : Type 0 where
  pub says : List ℕ
  pub raw : List ℕ

-- the bytes without one carriage return at their end
abbrev pub strip_carriage_return : List ℕ → List ℕ
strip_carriage_return [] = []
strip_carriage_return (b ∷ []) = if b == 13 then [] else b ∷ []
strip_carriage_return (b ∷ c ∷ bs) = b ∷ strip_carriage_return (c ∷ bs)

-- no line feed is among them
abbrev pub NoLineFeed : List ℕ → Type 0
NoLineFeed [] = Unit {0}
NoLineFeed (b ∷ bs) = ((b == 10) ≡ false) × NoLineFeed bs

-- the line of these bytes and a line feed; a carriage return directly before the line feed belongs
-- to the line's end
abbrev pub full_line : List ℕ → Line
full_line bs = record { says = trim (strip_carriage_return bs); raw = bs ++ 10 ∷ [] }

-- what stands behind the last line feed is a line too, unless nothing does or the reading broke off
-- there
abbrev pub last_line : End → List ℕ → List Line
last_line Broken bs = []
last_line Ended [] = []
last_line Ended (b ∷ bs) = record { says = trim (b ∷ bs); raw = b ∷ bs } ∷ []

-- the lines of some bytes, where the first line began with `begun`
abbrev pub lines_from : End → List ℕ → List ℕ → List Line
lines_from stop begun [] = last_line stop begun
lines_from stop begun (b ∷ bs) =
    if b == 10 then full_line begun ∷ lines_from stop [] bs
    else lines_from stop (begun ++ b ∷ []) bs

-- the lines of a text that stopped in this way
abbrev pub lines_until : End → List ℕ → List Line
lines_until stop bytes = lines_from stop [] bytes

-- the lines of a whole text
abbrev pub lines : List ℕ → List Line
lines bytes = lines_until Ended bytes

-- what each line of a whole text says
abbrev pub says : List ℕ → List (List ℕ)
says bytes = map (λ line. line.says) (lines bytes)

-- how many bytes stand before the first line feed, or how many there are if there is none
abbrev pub line_len : List ℕ → ℕ
line_len [] = 0
line_len (b ∷ bs) = if b == 10 then 0 else line_len bs + 1
