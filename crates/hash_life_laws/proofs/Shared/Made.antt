-- What holds of each square that is made on the way to a result.
use Rattle.std.proofs.Common.{◌≡◌, ℕ, zero, suc, ◌-◌, ◌<◌, ◌^◌, min, List, sym, subst, arith}
use Rattle.std.proofs.lemmas.List.Elements.{All-weaker}
use Rattle.worlds.specs.Square.{Square}
use Rattle.hash_life_laws.specs.Result.{result}
use Rattle.hash_life_laws.specs.Puts.{nine_of}
use Rattle.hash_life_laws.specs.Makes.{Makes}
use Rattle.hash_life_laws.proofs.Shared.InTwo.{OfParts}

-- it holds of the square itself
pub Makes-itself : (next : List ℕ → ℕ) (k n : ℕ) (s : Square) (P : Square → Type 0) → Makes next k n s P → P s
unfolding Makes
Makes-itself next k zero s P makes = makes.0
Makes-itself next zero (suc n) s P makes = makes.0
Makes-itself next (suc k) (suc n) s P makes = makes.0

-- and of its result
pub Makes-result : (next : List ℕ → ℕ) (k n : ℕ) (s : Square) (P : Square → Type 0) → Makes next k n s P → P (result next k n s)
unfolding Makes
Makes-result next k zero s P makes = makes.1
Makes-result next zero (suc n) s P makes = makes.1
Makes-result next (suc k) (suc n) s P makes = makes.1

-- and of what is made by the nine, and by the four
pub Makes-parts : (next : List ℕ → ℕ) (k n first : ℕ) (s : Square) (P : Square → Type 0) → 0 < n → first ≡ min n (2 ^ k) → Makes next (suc k) n s P → OfParts next k first (n - first) s (λ m q. Makes next k m q P)
unfolding Makes
Makes-parts next k zero first s P some is makes = absurd (omega (arith, some))
Makes-parts next k (suc n) first s P some is makes = subst (λ m. OfParts next k m (suc n - m) s (λ m q. Makes next k m q P)) (sym is) (makes.2, makes.3)

-- what holds of the square and of its result holds of all that is made for no generation
pub Makes-none : (next : List ℕ → ℕ) (k : ℕ) (s : Square) (P : Square → Type 0) → P s → P (result next k 0 s) → Makes next k 0 s P
unfolding Makes
Makes-none next k s P is found = (is, found)

-- and of all that is made for a square of level 2
pub Makes-last : (next : List ℕ → ℕ) (n : ℕ) (s : Square) (P : Square → Type 0) → P s → P (result next 0 n s) → Makes next 0 n s P
unfolding Makes
Makes-last next zero s P is found = (is, found)
Makes-last next (suc n) s P is found = (is, found)

-- and, where it holds of what is made by the nine, and by the four, of all
pub Makes-whole : (next : List ℕ → ℕ) (k n first : ℕ) (s : Square) (P : Square → Type 0) → 0 < n → first ≡ min n (2 ^ k) → P s
    → P (result next (suc k) n s) → OfParts next k first (n - first) s (λ m q. Makes next k m q P) → Makes next (suc k) n s P
unfolding Makes
Makes-whole next k zero first s P some is whole found parts = absurd (omega (arith, some))
Makes-whole next k (suc n) first s P some is whole found parts =
    let both = subst (λ m. OfParts next k m (suc n - m) s (λ m q. Makes next k m q P)) is parts in
    (whole, found, both.0, both.1)

-- what follows of each of them
pub Makes-weaker : (next : List ℕ → ℕ) (k n : ℕ) (s : Square) (P Q : Square → Type 0) → ((q : Square) → P q → Q q) → Makes next k n s P → Makes next k n s Q
unfolding Makes
Makes-weaker next k zero s P Q so makes = (so s makes.0, so _ makes.1)
Makes-weaker next zero (suc n) s P Q so makes = (so s makes.0, so _ makes.1)
Makes-weaker next (suc k) (suc n) s P Q so makes =
    let first = min (suc n) (2 ^ k) in (
      so s makes.0,
      so _ makes.1,
      All-weaker (λ q. Makes next k first q P) (λ q. Makes next k first q Q) (λ q is. Makes-weaker next k first q P Q so is) (nine_of s) makes.2,
      All-weaker (λ q. Makes next k (suc n - first) q P) (λ q. Makes next k (suc n - first) q Q) (λ q is. Makes-weaker next k (suc n - first) q P Q so is) _ makes.3,
    )
