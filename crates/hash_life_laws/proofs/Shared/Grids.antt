-- Squares of a world by the squares in them, which stand in a grid.
use Rattle.std.proofs.Common.{◌≡◌, ℕ, suc, ◌+◌, ◌^◌, ℤ, pos, ◌+ℤ◌, ap₂, arith}
use Rattle.std.proofs.lemmas.Int.{ints}
use Rattle.worlds.specs.World.{World}
use Rattle.worlds.specs.Square.{four, square_at}

-- squares at equal places are one
pub same_square : (w : World) (k : ℕ) (x1 x2 y1 y2 : ℤ) → x1 ≡ x2 → y1 ≡ y2 → square_at w k x1 y1 ≡ square_at w k x2 y2
same_square w k x1 x2 y1 y2 same_x same_y = ap₂ (square_at w k) same_x same_y

-- four squares that meet are the square that they make
pub joined : (w : World) (k : ℕ) (x0 x1 y0 y1 : ℤ) → x0 +ℤ pos (2 ^ k) ≡ x1 → y0 +ℤ pos (2 ^ k) ≡ y1 →
    square_at w (suc k) x0 y0 ≡ four (square_at w k x0 y0) (square_at w k x1 y0) (square_at w k x0 y1) (square_at w k x1 y1)
unfolding square_at
joined w k x0 x1 y0 y1 right below = cc

twice : (k : ℕ) → 2 ^ suc k ≡ 2 ^ k + 2 ^ k
twice k = omega arith

two_on : (k : ℕ) (x0 x1 x2 : ℤ) → x0 +ℤ pos (2 ^ k) ≡ x1 → x1 +ℤ pos (2 ^ k) ≡ x2 → x0 +ℤ pos (2 ^ suc k) ≡ x2
two_on k x0 x1 x2 first second = let t : 2 ^ suc k ≡ 2 ^ k + 2 ^ k = twice k in omega (arith, ints)

-- sixteen squares in a grid are the square that they make
pub sixteen : (w : World) (k : ℕ) (x0 x1 x2 x3 y0 y1 y2 y3 : ℤ) →
    x0 +ℤ pos (2 ^ k) ≡ x1 → x1 +ℤ pos (2 ^ k) ≡ x2 → x2 +ℤ pos (2 ^ k) ≡ x3 → y0 +ℤ pos (2 ^ k) ≡ y1 → y1 +ℤ pos (2 ^ k) ≡ y2 → y2 +ℤ pos (2 ^ k) ≡ y3 →
    square_at w (suc (suc k)) x0 y0 ≡
    four (four (square_at w k x0 y0) (square_at w k x1 y0) (square_at w k x0 y1) (square_at w k x1 y1))
    (four (square_at w k x2 y0) (square_at w k x3 y0) (square_at w k x2 y1) (square_at w k x3 y1))
    (four (square_at w k x0 y2) (square_at w k x1 y2) (square_at w k x0 y3) (square_at w k x1 y3))
    (four (square_at w k x2 y2) (square_at w k x3 y2) (square_at w k x2 y3) (square_at w k x3 y3))
sixteen w k x0 x1 x2 x3 y0 y1 y2 y3 a b c d e f =
    let whole = joined w (suc k) x0 x2 y0 y2 (two_on k x0 x1 x2 a b) (two_on k y0 y1 y2 d e) in
    let nw = joined w k x0 x1 y0 y1 a d in
    let ne = joined w k x2 x3 y0 y1 c d in
    let sw = joined w k x0 x1 y2 y3 a f in
    let se = joined w k x2 x3 y2 y3 c f in
    cc
