-- What holds of each square that is put to the rule on the way to a result.
use Rattle.std.proofs.Common.{◌≡◌, ℕ, zero, suc, ◌-◌, ◌<◌, ◌^◌, min, List, subst, arith}
use Rattle.std.proofs.lemmas.List.Elements.{All-weaker}
use Rattle.worlds.specs.Square.{Square}
use Rattle.hash_life_laws.specs.Puts.{nine_of, Puts}
use Rattle.hash_life_laws.proofs.Shared.InTwo.{OfParts}

-- for no generation none is put
pub Puts-none : (next : List ℕ → ℕ) (k : ℕ) (s : Square) (P : Square → Type 0) → Puts next k 0 s P
unfolding Puts
Puts-none next k s P = tt

-- of a square of level 2 it is the square alone
pub Puts-last : (next : List ℕ → ℕ) (n : ℕ) (s : Square) (P : Square → Type 0) → P s → Puts next 0 n s P
unfolding Puts
Puts-last next zero s P is = tt
Puts-last next (suc n) s P is = is

-- where it holds of what is put by the nine, and by the four, it holds of all
pub Puts-whole : (next : List ℕ → ℕ) (k n first : ℕ) (s : Square) (P : Square → Type 0) → 0 < n → first ≡ min n (2 ^ k) → OfParts next k first (n - first) s (λ m q. Puts next k m q P) → Puts next (suc k) n s P
unfolding Puts
Puts-whole next k zero first s P some is parts = absurd (omega (arith, some))
Puts-whole next k (suc n) first s P some is parts = subst (λ m. OfParts next k m (suc n - m) s (λ m q. Puts next k m q P)) is parts

-- what follows of each of them
pub Puts-weaker : (next : List ℕ → ℕ) (k n : ℕ) (s : Square) (P Q : Square → Type 0) → ((q : Square) → P q → Q q) → Puts next k n s P → Puts next k n s Q
unfolding Puts
Puts-weaker next k zero s P Q so puts = tt
Puts-weaker next zero (suc n) s P Q so puts = so s puts
Puts-weaker next (suc k) (suc n) s P Q so puts =
    let first = min (suc n) (2 ^ k) in (
      All-weaker (λ q. Puts next k first q P) (λ q. Puts next k first q Q) (λ q is. Puts-weaker next k first q P Q so is) (nine_of s) puts.0,
      All-weaker (λ q. Puts next k (suc n - first) q P) (λ q. Puts next k (suc n - first) q Q) (λ q is. Puts-weaker next k (suc n - first) q P Q so is) _ puts.1,
    )
