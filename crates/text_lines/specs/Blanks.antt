-- Blanks, which are spaces and tabs, and bytes without those at their ends.
use Rattle.std.specs.Prelude.{◌≡◌, ℕ, ◌==◌, List, [], ◌∷◌, Bool, ◌||◌, false, true, if◌then◌else◌}

-- a space or a tab
abbrev pub is_blank : ℕ → Bool
is_blank b = (b == 32) || (b == 9)

-- the same as a fact
abbrev pub IsBlank : ℕ → Type 0
IsBlank b = is_blank b ≡ true

-- the bytes from the first that is no blank
abbrev pub trim_start : List ℕ → List ℕ
trim_start [] = []
trim_start (b ∷ bs) = if is_blank b then trim_start bs else b ∷ bs

-- b before a trimmed end
abbrev pub before_end : ℕ → List ℕ → List ℕ
before_end b [] = if is_blank b then [] else b ∷ []
before_end b (c ∷ cs) = b ∷ c ∷ cs

-- the bytes up to the last that is no blank
abbrev pub trim_end : List ℕ → List ℕ
trim_end [] = []
trim_end (b ∷ bs) = before_end b (trim_end bs)

-- the bytes from the first to the last that is no blank
abbrev pub trim : List ℕ → List ℕ
trim bs = trim_end (trim_start bs)

-- the first byte, if there is one, is no blank
abbrev pub StartsSolid : List ℕ → Type 0
StartsSolid [] = Unit {0}
StartsSolid (b ∷ bs) = is_blank b ≡ false

-- no blank is at either end
abbrev pub IsTrimmed : List ℕ → Type 0
IsTrimmed bs = StartsSolid bs × (trim_end bs ≡ bs)
