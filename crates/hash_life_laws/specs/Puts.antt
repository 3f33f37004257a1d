-- Which squares HashLife puts to the rule on its way to a result.
use Rattle.std.specs.Prelude.{⊤, ◌≡◌, ◌≢◌, ℕ, zero, suc, ◌+◌, ◌-◌, ◌*◌, ◌<◌, ◌≤◌, ◌^◌, min, List, [], ◌∷◌, length, map, All, ℤ, Contains}
use Rattle.std.specs.List.{AllPairs}
use Rattle.worlds.specs.World.{World}
use Rattle.worlds.specs.Step.{step, nine_zeros}
use Rattle.worlds.specs.Iterate.{iterate}
use Rattle.worlds.specs.Square.{Square, one, four, square_at}
use Rattle.hash_life_laws.specs.Result.{between, amid, middle, result}

-- the nine squares of half the side that overlap in a square, by rows
abbrev pub nine_of : Square → List Square
nine_of (four nw ne sw se) =
    nw ∷ between nw ne ∷ ne ∷ amid nw sw ∷ middle (four nw ne sw se) ∷ amid ne se ∷ sw
    ∷ between sw se ∷ se ∷ []
nine_of (one s) = []

-- the four squares that overlap in what nine make, by rows
abbrev pub fours_of : List Square → List Square
fours_of (a ∷ b ∷ c ∷ d ∷ e ∷ f ∷ g ∷ h ∷ i ∷ []) =
    four a b d e ∷ four b c e f ∷ four d e g h ∷ four e f h i ∷ []
fours_of other = []

-- P holds of each square of level 2 that is put to the rule on the way to the result of a square of
-- level k + 2
unfoldable pub Puts : (List ℕ → ℕ) → ℕ → ℕ → Square → (Square → Type 0) → Type 0
Puts next k zero s P = ⊤
Puts next zero (suc n) s P = P s
Puts next (suc k) (suc n) s P =
    All (λ q. Puts next k (min (suc n) (2 ^ k)) q P) (nine_of s)
    × All (λ q. Puts next k (suc n - min (suc n) (2 ^ k)) q P)
    (fours_of (map (result next k (min (suc n) (2 ^ k))) (nine_of s)))

-- so many different squares of level 2 are put to the rule on the way to the result of a square of
-- level k + 2: these are all of them, and any list that has all of them has these
pub record PutsBlocks (next : List ℕ → ℕ) (k n : ℕ) (s : Square) (many : ℕ) : Type 0 where
  pub blocks : List Square
  pub count : length blocks ≡ many
  pub different : AllPairs (λ p q. p ≢ q) blocks
  pub all : Puts next k n s (Contains blocks)
  pub only : (those : List Square) → Puts next k n s (Contains those) → All (Contains those) blocks

-- each of its states is below n
unfoldable pub IsBelow : ℕ → Square → Type 0
IsBelow n (one s) = s < n
IsBelow n (four nw ne sw se) = IsBelow n nw × IsBelow n ne × IsBelow n sw × IsBelow n se

-- the square of level 2 stands somewhere in the world at one of its first n generations
abbrev pub Stands : (List ℕ → ℕ) → World → ℕ → Square → Type 0
Stands next w n s =
    (t : ℕ) × (x : ℤ) × (y : ℤ) × (t < n) × (s ≡ square_at (iterate t (step next) w) 2 x y)

-- each square that is put to the rule on the way to the result of a square of a world stands in it
-- at an earlier generation
abbrev pub PutsWhatStands : Type 0
PutsWhatStands =
    (next : List ℕ → ℕ) → next nine_zeros ≡ 0 → (w : World) (k n : ℕ) (x y : ℤ) → n ≤ 2 ^ k
    → Puts next k n (square_at w (suc (suc k)) x y) (Stands next w n)

-- four asks for each of so many blocks, no two of which are the same, and each of which stands in
-- the world at one of its first n generations
pub record AsksOnce (next : List ℕ → ℕ) (w : World) (n base asks new_asks : ℕ) : Type 0 where
  pub blocks : List Square
  pub count : length blocks ≡ base
  pub different : AllPairs (λ s t. s ≢ t) blocks
  pub stand : All (Stands next w n) blocks
  pub four : new_asks ≡ asks + 4 * base
