-- Numbers that stand for squares.
use Rattle.std.specs.Prelude.{◌≡◌, ℕ, suc, ◌<◌, List, length, get_or}
use Rattle.worlds.specs.Square as squares
pub use Rattle.bit_blocks.specs.Numbers.{of_four}
use Rattle.square_table.specs.Squares.{IsNumber, AreNumbers, square_in, square_of}
use Rattle.hash_life_laws.specs.Puts.{Puts, IsBelow}

-- n is the number of the square s of level k
pub record StandsFor (rows : List (List ℕ)) (k n : ℕ) (s : squares.Square) : Type 0 where
  pub numbered : IsNumber rows k n
  pub square : square_in rows k n ≡ s

-- each of these is the number of one of these squares of level k
pub record StandForAll (rows : List (List ℕ)) (k : ℕ) (ns : List ℕ) (ss : List squares.Square)
    : Type 0 where
  pub count : length ns ≡ length ss
  pub each : (j d : ℕ) (e : squares.Square) → j < length ns →
      StandsFor rows k (get_or ns j d) (get_or ss j e)

-- n is the number of a square of level k + 2, and each that is put to the rule on the way to its
-- result has states of the rule
pub record IsReady (next : List ℕ → ℕ) (state_count : ℕ) (rows : List (List ℕ))
    (k generations n : ℕ) : Type 0 where
  pub numbered : IsNumber rows (suc (suc k)) n
  pub below : Puts next k generations (square_in rows (suc (suc k)) n) (IsBelow state_count)

-- n is the number of a square of 4 by 4 cells with states of the rule
pub record CanBePut (state_count : ℕ) (rows : List (List ℕ)) (n : ℕ) : Type 0 where
  pub numbered : IsNumber rows 2 n
  pub below : IsBelow state_count (square_in rows 2 n)

-- these are the quadrants of a block of 4 by 4 cells with states of the rule
pub record BlockCanBePut (state_count : ℕ) (rows : List (List ℕ)) (quadrants : List ℕ)
    : Type 0 where
  pub numbered : AreNumbers rows 1 quadrants
  pub below : IsBelow state_count (square_of rows 1 quadrants)
