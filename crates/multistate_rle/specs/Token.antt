-- The tokens of a body: which ones a pattern has, and how each is written.
use Rattle.std.specs.Prelude.{ℕ, zero, suc, ◌+◌, ◌/◌, ◌%◌, ◌==◌, if◌then◌else◌, List, [], ◌∷◌, ◌++◌, ℤ, pos, ◌+ℤ◌, ◌-ℤ◌, codes, decimal, unsigned_abs}
use Rattle.worlds.specs.World.{Place}
use Rattle.multistate_rle.specs.declared.token.Token.{Token}
use Rattle.multistate_rle.specs.declared.token.Token.TheVariants.{Run, RowEnds, End}

-- how far a and b are apart
abbrev pub distance : ℤ → ℤ → ℕ
distance a b = unsigned_abs (b -ℤ a)

-- so many cells of state 0; none are left out
abbrev pub zeros : ℕ → List Token
zeros zero = []
zeros (suc n) = Run (suc n) 0 ∷ []

-- the way to the place `to`, so many rows below `from`: on in the same row, or from the left edge
-- of a later one
abbrev pub way_by : ℕ → ℤ → Place → Place → List Token
way_by zero left from to = zeros (distance from.1 to.1)
way_by (suc n) left from to = RowEnds (suc n) ∷ zeros (distance left to.1)

-- the way from one place to another
abbrev pub way : ℤ → Place → Place → List Token
way left from to = way_by (distance from.0 to.0) left from to

-- n cells of the state s before what follows; a run of that state next to them is one with them
abbrev pub joined : ℕ → ℕ → List Token → List Token
joined n s (Run m t ∷ ts) = if s == t then Run (n + m) t ∷ ts else Run n s ∷ Run m t ∷ ts
joined n s ts = Run n s ∷ ts

-- the next place in the row
abbrev pub behind : Place → Place
behind p = (p.0, p.1 +ℤ pos 1)

-- the tokens of the live cells, row by row, from a place on; each row begins at the left edge
abbrev pub tokens : ℤ → Place → List (Place × ℕ) → List Token
tokens left from [] = End ∷ []
tokens left from (c ∷ cs) = way left from c.0 ++ joined 1 c.1 (tokens left (behind c.0) cs)

-- a count, which isn't written where it is 1
abbrev pub count_text : ℕ → List ℕ
count_text n = if n == 1 then [] else decimal n

-- `b` for the state 0 and `o` for the other
abbrev pub two_state_text : ℕ → List ℕ
two_state_text zero = codes "b"
two_state_text (suc n) = codes "o"

-- the prefix that stands for so many times 24 states: none, or `p` (112) for one up to `y` for ten
abbrev pub prefix_text : ℕ → List ℕ
prefix_text zero = []
prefix_text (suc k) = (112 + k) ∷ []

-- `.` for the state 0; for the others the letters `A` (65) to `X` again and again, each time with
-- the next prefix
abbrev pub multi_state_text : ℕ → List ℕ
multi_state_text zero = codes "."
multi_state_text (suc n) = prefix_text (n / 24) ++ (65 + n % 24) ∷ []

-- a state under a rule of so many
abbrev pub state_text : ℕ → ℕ → List ℕ
state_text states s = if states == 2 then two_state_text s else multi_state_text s

-- a token under a rule of so many states
abbrev pub token_text : ℕ → Token → List ℕ
token_text states (Run n s) = count_text n ++ state_text states s
token_text states (RowEnds n) = count_text n ++ codes "$"
token_text states End = codes "!"
