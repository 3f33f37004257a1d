-- Numbers and the squares that they stand for.
use Rattle.square_table.proofs.Names.{AreDistinct, List, NumbersTellSquares, ap, arith, common_steps, first_number, get_or, kid_at, kids_at, length, one, refl, suc, zero, ℕ, ◌-◌, ◌<◌, ◌≡◌}
use Rattle.worlds.specs.Square.{IsSquare}
use Rattle.square_table.specs.Squares.{IsNumber, square_in}

-- numbers of cells
pub IsNumber-state : (rows : List (List ℕ)) (n : ℕ) → n < first_number → IsNumber rows 0 n
unfolding IsNumber
IsNumber-state rows n h = h

pub square_in-cell : (rows : List (List ℕ)) (n : ℕ) → square_in rows 0 n ≡ one n
unfolding square_in
square_in-cell rows n = refl

-- a square of a table has the shape of its level
pub square_in-IsSquare : (rows : List (List ℕ)) (k n : ℕ) → IsNumber rows k n → IsSquare k (square_in rows k n)
unfolding IsNumber square_in IsSquare
square_in-IsSquare rows zero n h = h
square_in-IsSquare rows (suc k) n h = (square_in-IsSquare rows k _ h.2, square_in-IsSquare rows k _ h.3, square_in-IsSquare rows k _ h.4, square_in-IsSquare rows k _ h.5)

-- a number has one level
pub one_level : (rows : List (List ℕ)) (j k n : ℕ) → IsNumber rows j n → IsNumber rows k n → j ≡ k
unfolding IsNumber
one_level rows zero zero n a b = refl
one_level rows zero (suc k) n a b = absurd (omega (arith, a, b.0))
one_level rows (suc j) zero n a b = absurd (omega (arith, a.0, b))
one_level rows (suc j) (suc k) n a b = ap suc (one_level rows j k (kid_at rows n 0) a.2 b.2)

-- lists of four numbers are one where the numbers are
same_four : (xs ys : List ℕ) → length xs ≡ 4 → length ys ≡ 4 → get_or xs 0 0 ≡ get_or ys 0 0 → get_or xs 1 0 ≡ get_or ys 1 0 → get_or xs 2 0 ≡ get_or ys 2 0 → get_or xs 3 0 ≡ get_or ys 3 0 → xs ≡ ys
same_four q0 q1 q2 q3 q4 q5 q6 q7 = grind (arith, common_steps)

-- the cells tell the number
pub one_number : (rows : List (List ℕ)) → AreDistinct rows → (k m n : ℕ) → IsNumber rows k m → IsNumber rows k n → square_in rows k m ≡ square_in rows k n → m ≡ n
unfolding IsNumber square_in
one_number rows are zero m n a b same = cc
one_number rows are (suc k) m n a b same =
    let nw = one_number rows are k (kid_at rows m 0) (kid_at rows n 0) a.2 b.2 cc in
    let ne = one_number rows are k (kid_at rows m 1) (kid_at rows n 1) a.3 b.3 cc in
    let sw = one_number rows are k (kid_at rows m 2) (kid_at rows n 2) a.4 b.4 cc in
    let se = one_number rows are k (kid_at rows m 3) (kid_at rows n 3) a.5 b.5 cc in
    let first : m - first_number < length rows = omega (arith, a.0, a.1) in
    let second : n - first_number < length rows = omega (arith, b.0, b.1) in
    let kids : kids_at rows m ≡ kids_at rows n = same_four _ _ (are.four (m - first_number) first) (are.four (n - first_number) second) nw ne sw se in
    let places = are.distinct (m - first_number) (n - first_number) first second kids in
    omega (arith, a.0, b.0, places)

-- in one table numbers are equal exactly where levels and cells are
pub numbers_tell : NumbersTellSquares
numbers_tell t are s1 s2 h1 h2 = grind (arith, one_level, one_number)
