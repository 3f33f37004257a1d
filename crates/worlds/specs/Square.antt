-- Squares of cells: a square of level 0 is one cell, and one of a level more is four squares.
use Rattle.std.specs.Prelude.{ℕ, zero, suc, ◌-◌, ◌<◌, ◌^◌, cond, nat_le, ℤ, pos, ◌+ℤ◌, ◌≤ℤ◌, ◌<ℤ◌}
use Rattle.worlds.specs.World.{World, cell, put}

-- one cell by its state, or the quadrants nw, ne, sw and se
pub data Square : Type 0 where
  one : ℕ → Square
  four : Square → Square → Square → Square → Square

-- the square of level k with no live cell
unfoldable pub empty_square : ℕ → Square
empty_square zero = one 0
empty_square (suc k) = let e = empty_square k in four e e e e

-- it has the level k, and its states are below 256
unfoldable pub IsSquare : ℕ → Square → Type 0
IsSquare zero (one s) = s < 256
IsSquare zero (four nw ne sw se) = ⊥
IsSquare (suc k) (one s) = ⊥
IsSquare (suc k) (four nw ne sw se) = IsSquare k nw × IsSquare k ne × IsSquare k sw × IsSquare k se

-- the state of the cell at (x, y) from the upper left one: that in the quadrant that holds it
unfoldable pub cell_in : ℕ → Square → ℕ → ℕ → ℕ
cell_in k (one s) x y = s
cell_in zero (four nw ne sw se) x y = 0
cell_in (suc k) (four nw ne sw se) x y =
    cond (nat_le (2 ^ k) y)
    (cond (nat_le (2 ^ k) x) (cell_in k se (x - 2 ^ k) (y - 2 ^ k)) (cell_in k sw x (y - 2 ^ k)))
    (cond (nat_le (2 ^ k) x) (cell_in k ne (x - 2 ^ k) y) (cell_in k nw x y))

-- the quadrant that holds (x, y), of those with this side: 0 to 3 for nw, ne, sw and se
abbrev pub quadrant_at : ℕ → ℕ → ℕ → ℕ
quadrant_at half x y = cond (nat_le half y) (cond (nat_le half x) 3 2) (cond (nat_le half x) 1 0)

-- how far it lies from the edge of that quadrant
abbrev pub within : ℕ → ℕ → ℕ
within half x = cond (nat_le half x) (x - half) x

-- the world with a square of level k whose upper left cell is at (x, y), and as w elsewhere
unfoldable pub put_square : ℕ → Square → ℤ → ℤ → World → World
put_square k (one s) x y w = put w x y s
put_square zero (four nw ne sw se) x y w = w
put_square (suc k) (four nw ne sw se) x y w =
    let h = pos (2 ^ k) in
    put_square k se (x +ℤ h) (y +ℤ h)
    (put_square k sw x (y +ℤ h) (put_square k ne (x +ℤ h) y (put_square k nw x y w)))

-- the square of level k whose upper left cell is at (x, y)
unfoldable pub square_at : World → ℕ → ℤ → ℤ → Square
square_at w zero x y = one (cell w x y)
square_at w (suc k) x y =
    let h = pos (2 ^ k) in
    four (square_at w k x y) (square_at w k (x +ℤ h) y) (square_at w k x (y +ℤ h))
    (square_at w k (x +ℤ h) (y +ℤ h))

-- (x, y) lies in the square of this side whose upper left cell is at (left, top)
pub record IsIn (side : ℕ) (edge_x edge_y x y : ℤ) : Type 0 where
  pub left : edge_x ≤ℤ x
  pub right : x <ℤ (edge_x +ℤ pos side)
  pub top : edge_y ≤ℤ y
  pub bottom : y <ℤ (edge_y +ℤ pos side)
