-- Which squares HashLife makes on its way to a result.
use Rattle.std.specs.Prelude.{ℕ, zero, suc, ◌-◌, ◌^◌, min, List, map, All}
use Rattle.worlds.specs.Square.{Square}
use Rattle.hash_life_laws.specs.Result.{result}
use Rattle.hash_life_laws.specs.Puts.{nine_of, fours_of}

-- P holds of each square on the way from a square of level k + 2 to its result, with both of these
unfoldable pub Makes : (List ℕ → ℕ) → ℕ → ℕ → Square → (Square → Type 0) → Type 0
Makes next k zero s P = P s × P (result next k zero s)
Makes next zero (suc n) s P = P s × P (result next zero (suc n) s)
Makes next (suc k) (suc n) s P =
    let first = min (suc n) (2 ^ k) in
    P s × P (result next (suc k) (suc n) s) × All (λ q. Makes next k first q P) (nine_of s)
    × All (λ q. Makes next k (suc n - first) q P) (fours_of (map (result next k first) (nine_of s)))
