-- The cases of a result.
use Rattle.std.proofs.Common.{◌≡◌, ℕ, zero, suc, ◌-◌, ◌<◌, ◌^◌, min, List, map, refl, sym, subst, arith}
use Rattle.std.specs.Prelude.{All}
use Rattle.worlds.specs.Square.{Square}
use Rattle.hash_life_laws.specs.Result.{middle, later, in_two, result}
use Rattle.hash_life_laws.specs.Puts.{nine_of, fours_of, Puts}

pub result-in_two : (next : List ℕ → ℕ) (k n : ℕ) (s : Square) → 0 < n → result next (suc k) n s ≡ in_two (result next k (min n (2 ^ k))) (result next k (n - min n (2 ^ k))) s
unfolding result
result-in_two next k zero s some = absurd (omega (arith, some))
result-in_two next k (suc n) s some = refl

pub result-none : (next : List ℕ → ℕ) (k : ℕ) (s : Square) → result next k 0 s ≡ middle s
unfolding result
result-none next k s = refl

pub result-later : (next : List ℕ → ℕ) (n : ℕ) (s : Square) → 0 < n → result next 0 n s ≡ later next s
unfolding result
result-later next zero s some = absurd (omega (arith, some))
result-later next (suc n) s some = refl

-- Q of the nine for the first generations, and of the four that these make for the others
abbrev pub OfParts : (List ℕ → ℕ) → ℕ → ℕ → ℕ → Square → (ℕ → Square → Type 0) → Type 0
OfParts next k first others s Q = All (Q first) (nine_of s) × All (Q others) (fours_of (map (result next k first) (nine_of s)))

-- the squares that are put to the rule by the nine, and by the four
pub Puts-parts : (next : List ℕ → ℕ) (k n first : ℕ) (s : Square) (P : Square → Type 0) → 0 < n → first ≡ min n (2 ^ k) → Puts next (suc k) n s P → OfParts next k first (n - first) s (λ m q. Puts next k m q P)
unfolding Puts
Puts-parts next k zero first s P some is puts = absurd (omega (arith, some))
Puts-parts next k (suc n) first s P some is puts = subst (λ m. OfParts next k m (suc n - m) s (λ m q. Puts next k m q P)) (sym is) puts

pub Puts-itself : (next : List ℕ → ℕ) (n : ℕ) (s : Square) (P : Square → Type 0) → 0 < n → Puts next 0 n s P → P s
unfolding Puts
Puts-itself next zero s P some puts = absurd (omega (arith, some))
Puts-itself next (suc n) s P some puts = puts
