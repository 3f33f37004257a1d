-- Strips of squares of one level, and the number of each square.
use Rattle.std.specs.List.{slice_get}
use Rattle.std.specs.Prelude.{Some, ◌≡◌, ℕ, ◌<◌, ◌≤◌, ◌^◌, ◌==◌, ◌&&◌, Bool, nat_le, nat_lt, cond, List, [], ◌∷◌, All}
use Rattle.plane_core.specs.declared.strip.Strip.{Strip}

-- (i, j) is (x, y) or comes behind it, in reading order
pub record IsOnward (x y i j : ℕ) : Type 0 where
  pub row : y ≤ j
  pub column : y ≡ j → x ≤ i

-- (i, j) comes before (x, y)
pub record IsEarlier (i j x y : ℕ) : Type 0 where
  pub row : j ≤ y
  pub column : j ≡ y → i < x

-- the strip has no square at (x, y) or behind it
pub record IsBefore (s : Strip) (x y : ℕ) : Type 0 where
  pub row : s.y ≤ y
  pub column : s.y ≡ y → s.end ≤ x

-- it ends behind (x, y)
pub record IsBehind (s : Strip) (x y : ℕ) : Type 0 where
  pub row : y ≤ s.y
  pub column : s.y ≡ y → x < s.end

-- whether it comes before (x, y)
abbrev pub ends_before : Strip → ℕ → ℕ → Bool
ends_before s x y = cond (s.y == y) (nat_le s.end x) (nat_lt s.y y)

-- the number at (x, y): that of the first strip that doesn't come before it, where that strip has a
-- square there, and 0 elsewhere
unfoldable pub number_at : List Strip → ℕ → ℕ → ℕ
number_at [] x y = 0
number_at (s ∷ ss) x y =
    cond (ends_before s x y) (number_at ss x y) (cond (s.y == y && nat_le s.x x) s.number 0)

-- the first strip ends behind (x, y)
unfoldable pub AreAhead : List Strip → ℕ → ℕ → Type 0
AreAhead [] x y = Unit {0}
AreAhead (s ∷ ss) x y = IsBehind s x y

-- what is left of the strips from (x, y) on
pub record AreLeft (strips left : List Strip) (x y : ℕ) : Type 0 where
  pub same : (i j : ℕ) → IsOnward x y i j → number_at left i j ≡ number_at strips i j
  pub ahead : AreAhead left x y

-- n is the number from (x, y) on and before the column `until`
pub record IsReach (strips : List Strip) (x y n until : ℕ) : Type 0 where
  pub more : x < until
  pub far : until ≤ 2 ^ 32
  pub same : (i : ℕ) → x ≤ i → i < until → number_at strips i y ≡ n

-- the first strip isn't in the row y
pub record IsOutOfRow (strips : List Strip) (y : ℕ) : Type 0 where
  pub none : (x i : ℕ) → AreAhead strips x y → number_at strips i y ≡ 0
  pub other : (s : Strip) → Some s ≡ slice_get strips 0 → s.y ≡ y → ⊥

-- none of them has a square at (x, y) or behind it
abbrev pub AreBefore : List Strip → ℕ → ℕ → Type 0
AreBefore strips x y = All (λ s. IsBefore s x y) strips

-- the squares of a strip come behind those of others
pub record AreExtended (old new : List Strip) (s : Strip) : Type 0 where
  pub here : AreBefore old s.x s.y
      → (i : ℕ) → s.x ≤ i → i < s.end → number_at new i s.y ≡ s.number
  pub others : AreBefore old s.x s.y
      → (i j : ℕ) → (j ≡ s.y → s.x ≤ i → i < s.end → ⊥) → number_at new i j ≡ number_at old i j
  pub before : AreBefore old s.x s.y → s.x ≤ s.end → AreBefore new s.end s.y
