-- A quadtree laid on one of a larger square.
use Rattle.std.specs.Prelude.{◌≡◌, ◌⊎◌, ℕ, ◌+◌, ◌-◌, ◌*◌, ◌^◌, ◌≤◌, nat_lt, ◌||◌, if◌then◌else◌, Option, None}
use Rattle.std.specs.Option.{option_or}
use Rattle.square_tree.specs.Quadtree.{Quadtree, HasLevel, at}
use Rattle.square_tree.specs.Cells.{reach}

-- from column or row x on, a square of the level k is one of those into which a square of the level
-- l divides
pub record IsAligned (l k x : ℕ) : Type 0 where
  pub smaller : k ≤ l
  pub before : ℕ
  pub is : x ≡ before * 2 ^ k
  pub inside : x + 2 ^ k ≤ 2 ^ l

-- what a quadtree of the level k, whose north-west corner lies in column x and row y, says of a
-- cell of a larger square
abbrev pub at_from : ℕ → ℕ → ℕ → Quadtree → ℕ → ℕ → Option ℕ
at_from x y k t x' y' = if nat_lt x' x || nat_lt y' y then None else at t k (x' - x) (y' - y)

-- the new quadtree says what the other one says from there on, and else what the old one says
pub record IsLaid (l x y k : ℕ) (other old new : Quadtree) : Type 0 where
  pub level : HasLevel l new
  pub says : (x' y' : ℕ) → at new l x' y' ≡ option_or (at_from x y k other x' y') (at old l x' y')

-- the new quadtree says of each cell what the old one says, or what it says once the other is laid
-- on it
pub record IsPartlyLaid (l x y k : ℕ) (other old new : Quadtree) : Type 0 where
  pub level : HasLevel l new
  pub says : (x' y' : ℕ)
      → (at new l x' y' ≡ at old l x' y')
      ⊎ (at new l x' y' ≡ option_or (at_from x y k other x' y') (at old l x' y'))

-- the same, where both squares lie around (0, 0)
abbrev pub IsLaidAround : ℕ → ℕ → Quadtree → Quadtree → Quadtree → Type 0
IsLaidAround l k = let inset = reach l - reach k in IsLaid l inset inset k

-- a part of it
abbrev pub IsPartlyLaidAround : ℕ → ℕ → Quadtree → Quadtree → Quadtree → Type 0
IsPartlyLaidAround l k = let inset = reach l - reach k in IsPartlyLaid l inset inset k
