-- What the numbers of a row's kids name.
use Rattle.plane_core.proofs.Names.{AreRows, IsNumber, List, SquareRow, arith, get_or, kid, length, length-take-le, no_row, suc, ℕ, ◌-◌, ◌<◌, ◌≡◌, ◌≤◌}
use Rattle.plane_core.proofs.Shared.Sound.{kid_number, number-listed}

number_listed : (rows : List SquareRow) (k n : ℕ) → 1 ≤ k → IsNumber rows k n → n ≤ length rows
number_listed rows k n low h = grind (arith, number-listed)

-- what the number of a kid of the i-th row names
pub record IsKid (rows : List SquareRow) (i k n : ℕ) : Type 0 where
  pub level : suc k ≡ (get_or rows i no_row).level
  pub high : k ≤ 61
  pub number : IsNumber rows k n
  pub listed : 1 ≤ k → n ≤ i

pub kid_is : (rows : List SquareRow) (i k q : ℕ) → AreRows rows → i < length rows → k ≡ (get_or rows i no_row).level - 1 → q < 4 → IsKid rows i k (kid (get_or rows i no_row) q)
kid_is rows i k q valid more ek hq = grind (arith, kid_number, number_listed, length-take-le)
