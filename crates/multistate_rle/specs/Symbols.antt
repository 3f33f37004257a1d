-- The symbols of a body.
use Rattle.std.specs.Prelude.{ℕ, ◌+◌, ◌-◌, ◌*◌, ◌==◌, ◌||◌, ◌&&◌, Bool, nat_le, List, [], ◌∷◌, if◌then◌else◌}
use Rattle.text_lines.specs.Blanks.{is_blank}
use Rattle.multistate_rle.specs.declared.solid.ByteAt.{ByteAt}
use Rattle.multistate_rle.specs.declared.symbol.Symbol.{Symbol}
use Rattle.multistate_rle.specs.declared.symbol.Symbol.TheVariants.{Digit, Cell, RowEnd, End, Unknown}
use Rattle.multistate_rle.specs.Cut.{begins_with}

-- a blank, or part of a line end: a carriage return is one only directly before a line feed
abbrev pub is_passed : ℕ → List ℕ → Bool
is_passed b bs = is_blank b || ((b == 10) || ((b == 13) && begins_with 10 bs))

-- the bytes that aren't passed over, with their offsets, of which the first is n
abbrev pub solid_from : ℕ → List ℕ → List ByteAt
solid_from n [] = []
solid_from n (b ∷ bs) =
    if is_passed b bs then solid_from (n + 1) bs
    else record { offset = n; byte = b } ∷ solid_from (n + 1) bs

-- from p to y: it raises the state of the letter behind it
abbrev pub is_prefix : ℕ → Bool
is_prefix b = nat_le 112 b && nat_le b 121

-- from A to X
abbrev pub is_letter : ℕ → Bool
is_letter b = nat_le 65 b && nat_le b 88

-- what a byte says that is no prefix
abbrev pub plain_symbol : ByteAt → Symbol
plain_symbol at =
    if nat_le 48 at.byte && nat_le at.byte 57 then Digit (at.byte - 48) else
    (if (at.byte == 98) || (at.byte == 46) then Cell 0 else
    (if at.byte == 111 then Cell 1 else
    (if is_letter at.byte then Cell (at.byte - 64) else
    (if at.byte == 36 then RowEnd else
    (if at.byte == 33 then End else Unknown at.offset)))))

-- the state that a prefix and a letter write: A to X are 1 to 24, p adds 24, q adds 48, and so on
abbrev pub prefixed_state : ℕ → ℕ → ℕ
prefixed_state prefix letter = (prefix - 111) * 24 + (letter - 64)

-- what a prefix says with the byte behind it
abbrev pub prefixed_symbol : ByteAt → ByteAt → Symbol
prefixed_symbol prefix letter =
    if is_letter letter.byte && nat_le (prefixed_state prefix.byte letter.byte) 255
    then Cell (prefixed_state prefix.byte letter.byte) else Unknown prefix.offset

-- the symbols that bytes write
abbrev pub symbols : List ByteAt → List Symbol
symbols [] = []
symbols (b ∷ []) = (if is_prefix b.byte then Unknown b.offset else plain_symbol b) ∷ []
symbols (b ∷ c ∷ cs) =
    if is_prefix b.byte then prefixed_symbol b c ∷ symbols cs else plain_symbol b ∷ symbols (c ∷ cs)
