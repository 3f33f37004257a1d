-- The bytes of a text, unless memory ran out.
use Rattle.std.specs.Prelude.{◌≡◌, ℕ, ◌++◌, List, Option, Some, None, length}

-- the text grew by these bytes, unless memory ran out
abbrev pub GrowsText : Option (List ℕ) → Option (List ℕ) → List ℕ → Type 0
GrowsText old None bs = Unit {0}
GrowsText None (Some ys) bs = ⊥
GrowsText (Some xs) (Some ys) bs = ys ≡ xs ++ bs

-- how many bytes are kept
abbrev pub len_of : Option (List ℕ) → ℕ
len_of None = 0
len_of (Some xs) = length xs

-- it is these bytes, unless memory ran out
abbrev pub IsText : Option (List ℕ) → List ℕ → Type 0
IsText None bs = Unit {0}
IsText (Some xs) bs = xs ≡ bs
