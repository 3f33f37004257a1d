-- The root of rows, its world, and that a world has one list of rows.
use Rattle.plane_core.proofs.Names.{AllBelow, AreKept, AreRows, Fits, HasMargin, IsIn, IsNumber, IsSquare, List, Square, SquareRow, [], ap, arith, blank, cell, cell-blank, cell_in, edge_of, get_or, inl, inr, ints, kid, length, lit<, no_row}
use Rattle.plane_core.proofs.Names.{pos, pow_mono, put_square, refl, root_of, row_at, same_world, square_in, subst, suc, sym, zero, ℕ, ℤ, ◌+ℤ◌, ◌+◌, ◌-◌, ◌<◌, ◌^◌, ◌∙◌, ◌∷◌, ◌≡◌, ◌≤◌}
use Rattle.plane_core.specs.Rows.{root_level, world_of_rows}
use Rattle.plane_core.proofs.Shared.Numbering.{Has-empty}
use Rattle.plane_core.proofs.Shared.Sound.{kid_number, square_in-none, square_in-state, square_in-row, state-IsNumber, IsNumber-level, IsNumber-from, AreRows-none}
use Rattle.plane_core.proofs.Shared.Cells.{IsSquare-one, IsSquare-empty, IsSquare-parts, cell_in-empty, same_square, put_square-below, put_square-inside, put_square-outside, in_or_out, offsets, double}

-- the square of a number is one
pub square_in-IsSquare : (rows : List SquareRow) (k n : ℕ) → AreRows rows → IsNumber rows k n → IsSquare k (square_in rows k n)
square_in-IsSquare rows zero n valid h = subst (IsSquare 0) (sym (square_in-state rows n)) (IsSquare-one n (state-IsNumber rows n h))
square_in-IsSquare rows (suc k) zero valid h = subst (IsSquare (suc k)) (sym (square_in-none rows (suc k))) (IsSquare-empty (suc k))
square_in-IsSquare rows (suc k) (suc i) valid h =
    let at = IsNumber-level rows k (suc i) h (omega arith) in
    let one_less : suc i - 1 ≡ i = omega arith in
    let level : (get_or rows i no_row).level ≡ suc k = ap (λ m. (get_or rows m no_row).level) (sym one_less) ∙ at.1 in
    let part = λ (q : ℕ) (hq : q < 4). square_in-IsSquare rows k (kid (get_or rows i no_row) q) valid (kid_number rows k i valid (omega arith) level q hq) in
    subst (IsSquare (suc k)) (sym (square_in-row rows k i)) (IsSquare-parts k _ _ _ _ (part 0 (lit< tt)) (part 1 (lit< tt)) (part 2 (lit< tt)) (part 3 (lit< tt)))

pub root_level-none : root_level [] ≡ 1
unfolding root_level
root_level-none = refl

pub root_level-some : (rows : List SquareRow) → 0 < length rows → root_level rows ≡ (row_at rows (length rows)).level
unfolding root_level
root_level-some rows h = grind (arith)

-- the root's level and number
pub record IsRoot (rows : List SquareRow) : Type 0 where
  pub low : 1 ≤ root_level rows
  pub high : root_level rows ≤ 62
  pub number : IsNumber rows (root_level rows) (length rows)

pub rooted : (rows : List SquareRow) → AreRows rows → IsRoot rows
rooted [] valid = grind (arith, root_level-none, IsNumber-from)
rooted (row ∷ others) valid =
    let rows : List SquareRow = row ∷ others in
    let n = length others in
    let at = valid n (omega arith) in
    let less : suc n - 1 ≡ n = omega arith in
    let level : root_level rows ≡ (get_or rows n no_row).level = root_level-some rows (omega arith) ∙ ap (λ m. (get_or rows m no_row).level) less in
    let j = root_level rows - 1 in
    let is : suc j ≡ root_level rows = omega arith in
    grind (arith, IsNumber-from, root_level-some)

pub root-IsSquare : (rows : List SquareRow) → AreRows rows → IsSquare (root_level rows) (root_of rows)
root-IsSquare rows valid = square_in-IsSquare rows (root_level rows) (length rows) valid (rooted rows valid).number

pub world-root : (rows : List SquareRow) → world_of_rows rows ≡ put_square (root_level rows) (root_of rows) (edge_of (root_level rows)) (edge_of (root_level rows)) blank
unfolding world_of_rows
world-root rows = refl

-- each cell in the root's square
pub world-inside : (rows : List SquareRow) (x y : ℤ) (i j : ℕ) → AreRows rows → x ≡ edge_of (root_level rows) +ℤ pos i → y ≡ edge_of (root_level rows) +ℤ pos j → i < 2 ^ root_level rows → j < 2 ^ root_level rows
    → cell (world_of_rows rows) x y ≡ cell_in (root_level rows) (root_of rows) i j
world-inside rows x y i j valid ex ey hi hj = grind (arith, world-root, put_square-inside, root-IsSquare)

-- and outside it
pub world-outside : (rows : List SquareRow) (x y : ℤ) → AreRows rows → (IsIn (2 ^ root_level rows) (edge_of (root_level rows)) (edge_of (root_level rows)) x y → ⊥) → cell (world_of_rows rows) x y ≡ 0
world-outside rows x y valid out = grind (arith, world-root, put_square-outside, root-IsSquare, cell-blank)

-- each state is below 256
pub root-below : (rows : List SquareRow) → AreRows rows → AllBelow 256 (world_of_rows rows)
root-below rows valid = subst (AllBelow 256) (sym (world-root rows)) (put_square-below (root_level rows) _ _ _ (root-IsSquare rows valid))

-- the live cells lie in the root's square
pub root-Fits : (rows : List SquareRow) → AreRows rows → Fits (root_level rows) (world_of_rows rows)
root-Fits rows valid x y live = grind (arith, in_or_out, world-outside)

-- the root's cells, by the world
pub root-cells : (rows : List SquareRow) (k i j : ℕ) → AreRows rows → root_level rows ≡ k → i < 2 ^ k → j < 2 ^ k
    → cell_in k (square_in rows k (length rows)) i j ≡ cell (world_of_rows rows) (edge_of k +ℤ pos i) (edge_of k +ℤ pos j)
root-cells rows k i j valid e = grind (arith, world-inside)

-- a world has one list of rows
pub kept-unique : (a b : List SquareRow) → AreKept a → AreKept b → world_of_rows a ≡ world_of_rows b → a ≡ b
kept-unique a b ca cb same =
    let below : root_level a ≤ root_level b = ca.least.least (root_level b) (rooted b cb.valid).low (subst (Fits (root_level b)) (sym same) cb.least.holds) in
    let above : root_level b ≤ root_level a = cb.least.least (root_level a) (rooted a ca.valid).low (subst (Fits (root_level a)) same ca.least.holds) in
    let k = root_level a in
    let level : root_level b ≡ k = omega arith in
    let is_b : IsSquare k (square_in b k (length b)) = subst (λ m. IsSquare m (square_in b m (length b))) level (root-IsSquare b cb.valid) in
    let square : root_of a ≡ square_in b k (length b) =
    same_square k (root_of a) (square_in b k (length b)) (root-IsSquare a ca.valid) is_b (λ i j hi hj.
    root-cells a k i j ca.valid refl hi hj
    ∙ ap (λ w. cell w (edge_of k +ℤ pos i) (edge_of k +ℤ pos j)) same
    ∙ sym (root-cells b k i j cb.valid level hi hj)) in
    grind (arith)

-- no rows stand for the blank world
pub world-none : world_of_rows [] ≡ blank
world-none =
    same_world (world_of_rows []) blank (λ x y.
    elim (in_or_out (2 ^ root_level []) (edge_of (root_level [])) (edge_of (root_level [])) x y) [
      | inl h ↦
          let at = offsets (2 ^ root_level []) (edge_of (root_level [])) (edge_of (root_level [])) x y h in
          world-inside [] x y at.i at.j AreRows-none at.ex at.ey at.hi at.hj
          ∙ ap (λ (t : Square). cell_in (root_level []) t at.i at.j) (square_in-none [] (root_level []))
          ∙ cell_in-empty (root_level []) at.i at.j
          ∙ sym (cell-blank x y)
      | inr out ↦ world-outside [] x y AreRows-none out ∙ sym (cell-blank x y)
    ])

-- a plane may keep no rows
pub kept-none : AreKept []
kept-none = grind (arith, AreRows-none, square_in-none, Has-empty, root-Fits, root_level-none)

-- half of a root's side, and the side
pub root-side : (k : ℕ) → 1 ≤ k → 2 ^ k ≡ 2 ^ (k - 1) + 2 ^ (k - 1)
root-side zero h = absurd (omega (arith, h))
root-side (suc k) h = let less : suc k - 1 ≡ k = omega arith in double k ∙ ap (λ j. 2 ^ j + 2 ^ j) (sym less)

-- the live cells lie in the range of planes
pub margin : (rows : List SquareRow) → AreRows rows → HasMargin 0 (world_of_rows rows)
margin rows valid x y live = grind (arith, ints, root-Fits, rooted, pow_mono, root-side)
