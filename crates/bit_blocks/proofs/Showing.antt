-- Grids that show a square of a world, generation by generation.
use Rattle.std.proofs.Common.{◌≡◌, ℕ, zero, suc, ◌+◌, ◌*◌, ◌/◌, ◌%◌, ◌<◌, ◌^◌, List, [], ◌∷◌, get_or, refl, sym, ap, ap₂, ◌∙◌, arith, lit<, lit≤, ℤ, pos, ◌+ℤ◌}
use Rattle.std.proofs.lemmas.Int.{ints}
use Rattle.worlds.specs.World.{World, blank}
use Rattle.worlds.specs.Step.{step, nine_zeros}
use Rattle.worlds.specs.Iterate.{iterate}
use Rattle.worlds.specs.Square.{Square, four, square_at, put_square, IsSquare}
use Rattle.hash_life_laws.specs.Result.{later, result}
use Rattle.hash_life_laws.proofs.Shared.Grids.{same_square, joined}
use Rattle.hash_life_laws.proofs.Shared.InTwo.{result-later}
use Rattle.hash_life_laws.proofs.Shared.Steps.{result-steps}
use Rattle.plane_core.proofs.Shared.Cells as cells
use Rattle.bit_blocks.specs.Numbers.{two_of, block_of, eight_of, sixteen_of}
use Rattle.bit_blocks.specs.Grids.{block_at, corner_of, IsStepped, HasBlocks}
use Rattle.bit_blocks.proofs.Bits.{block_of-parts, sixteen_square}

-- each place has the number of a square
abbrev pub AreTwos : List ℕ → Type 0
AreTwos grid = (place : ℕ) → get_or grid place 0 < 16

-- the first places of the first rows show the square of the world whose upper left cell is at (x, y)
pub record Shows (w : World) (side : ℕ) (x y : ℤ) (grid : List ℕ) : Type 0 where
  pub each : (row column : ℕ) → row < side → column < side →
      two_of (get_or grid (8 * row + column) 0) ≡ square_at w 1 (x +ℤ pos (2 * column)) (y +ℤ pos (2 * row))

-- the block at a place by its four squares
block_at-parts : (grid : List ℕ) → AreTwos grid → (place : ℕ) →
    block_of (block_at grid place) ≡ four (two_of (get_or grid place 0)) (two_of (get_or grid (place + 1) 0)) (two_of (get_or grid (place + 8) 0)) (two_of (get_or grid (place + 1 + 8) 0))
block_at-parts grid twos place = block_of-parts _ _ _ _ (twos place) (twos (place + 1)) (twos (place + 8))

-- a block of the grid is a block of the world
Shows-block : (w : World) (side : ℕ) (x y : ℤ) (grid : List ℕ) → AreTwos grid → Shows w side x y grid → (row column : ℕ) → row + 1 < side → column + 1 < side →
    block_of (block_at grid (8 * row + column)) ≡ square_at w 2 (x +ℤ pos (2 * column)) (y +ℤ pos (2 * row))
Shows-block w side x y grid twos shows row column low left =
    let place = 8 * row + column in
    let at : (p q : ℕ) → p ≡ q → two_of (get_or grid p 0) ≡ two_of (get_or grid q 0) = λ p q is. ap (λ p. two_of (get_or grid p 0)) is in
    let nw = shows.each row column (omega arith) (omega arith) in
    let ne = at (place + 1) (8 * row + (column + 1)) (omega arith) ∙ shows.each row (column + 1) (omega arith) left in
    let sw = at (place + 8) (8 * (row + 1) + column) (omega arith) ∙ shows.each (row + 1) column low (omega arith) in
    let se = at (place + 1 + 8) (8 * (row + 1) + (column + 1)) (omega arith) ∙ shows.each (row + 1) (column + 1) low left in
    block_at-parts grid twos place
    ∙ (λ i. four (nw i) (ne i) (sw i) (se i))
    ∙ sym (joined w 1 (x +ℤ pos (2 * column)) (x +ℤ pos (2 * (column + 1))) (y +ℤ pos (2 * row)) (y +ℤ pos (2 * (row + 1))) (omega (arith, ints)) (omega (arith, ints)))

-- a generation later
later-step : (next : List ℕ → ℕ) → next nine_zeros ≡ 0 → (w : World) (x y : ℤ) → later next (square_at w 2 x y) ≡ square_at (step next w) 1 (x +ℤ pos 1) (y +ℤ pos 1)
unfolding iterate
later-step next quiet w x y = sym (result-later next 1 (square_at w 2 x y) (lit< tt)) ∙ result-steps next quiet w 0 1 x y (lit≤ tt)

pub Shows-step : (next : List ℕ → ℕ) → next nine_zeros ≡ 0 → (w : World) (count : ℕ) (x y : ℤ) (grid new : List ℕ) → AreTwos grid → Shows w (count + 1) x y grid → IsStepped next count grid new →
    Shows (step next w) count (x +ℤ pos 1) (y +ℤ pos 1) new
Shows-step next quiet w count x y grid new twos shows stepped = record {
  each = λ row column low left.
      (stepped.rows row low).each (8 * row + column) (omega arith) (omega arith)
      ∙ ap (later next) (Shows-block w (count + 1) x y grid twos shows row column (omega arith) (omega arith))
      ∙ later-step next quiet w (x +ℤ pos (2 * column)) (y +ℤ pos (2 * row))
      ∙ same_square (step next w) 1 _ _ _ _ (omega (arith, ints)) (omega (arith, ints));
}

-- the quadrants of a square of a world, by how many lie to the left and above
quarters : (w : World) (k : ℕ) (x y : ℤ) (s : ℕ → Square) → four (s 0) (s 1) (s 2) (s 3) ≡ square_at w (suc k) x y → (a b : ℕ) → a < 2 → b < 2 →
    s (2 * b + a) ≡ square_at w k (x +ℤ pos (2 ^ k * a)) (y +ℤ pos (2 ^ k * b))
quarters w k x y s is zero zero ha hb =
    let whole = is ∙ joined w k x (x +ℤ pos (2 ^ k)) y (y +ℤ pos (2 ^ k)) refl refl in
    let part : s 0 ≡ square_at w k x y = cc whole in
    part ∙ same_square w k _ _ _ _ (omega (arith, ints)) (omega (arith, ints))
quarters w k x y s is (suc zero) zero ha hb =
    let whole = is ∙ joined w k x (x +ℤ pos (2 ^ k)) y (y +ℤ pos (2 ^ k)) refl refl in
    let part : s 1 ≡ square_at w k (x +ℤ pos (2 ^ k)) y = cc whole in
    part ∙ same_square w k _ _ _ _ (omega (arith, ints)) (omega (arith, ints))
quarters w k x y s is zero (suc zero) ha hb =
    let whole = is ∙ joined w k x (x +ℤ pos (2 ^ k)) y (y +ℤ pos (2 ^ k)) refl refl in
    let part : s 2 ≡ square_at w k x (y +ℤ pos (2 ^ k)) = cc whole in
    part ∙ same_square w k _ _ _ _ (omega (arith, ints)) (omega (arith, ints))
quarters w k x y s is (suc zero) (suc zero) ha hb =
    let whole = is ∙ joined w k x (x +ℤ pos (2 ^ k)) y (y +ℤ pos (2 ^ k)) refl refl in
    let part : s 3 ≡ square_at w k (x +ℤ pos (2 ^ k)) (y +ℤ pos (2 ^ k)) = cc whole in
    part ∙ same_square w k _ _ _ _ (omega (arith, ints)) (omega (arith, ints))
quarters w k x y s is (suc (suc a)) b ha hb = absurd (omega arith)
quarters w k x y s is zero (suc (suc b)) ha hb = absurd (omega arith)
quarters w k x y s is (suc zero) (suc (suc b)) ha hb = absurd (omega arith)

-- the block that stands in the row and the column of blocks
block_in : (w : World) (x y : ℤ) (blocks : List (List ℕ)) → sixteen_of blocks ≡ square_at w 4 x y → (row column : ℕ) → row < 4 → column < 4 →
    block_of (get_or (get_or blocks (2 * (row / 2) + column / 2) []) (2 * (row % 2) + column % 2) 0) ≡ square_at w 2 (x +ℤ pos (4 * column)) (y +ℤ pos (4 * row))
unfolding sixteen_of eight_of
block_in w x y blocks is row column low left =
    let eight = quarters w 3 x y (λ q. eight_of (get_or blocks q [])) is (column / 2) (row / 2) (omega arith) (omega arith) in
    quarters w 2 _ _ (λ q. block_of (get_or (get_or blocks (2 * (row / 2) + column / 2) []) q 0)) eight (column % 2) (row % 2) (omega arith) (omega arith)
    ∙ same_square w 2 _ _ _ _ (omega (arith, ints)) (omega (arith, ints))

-- the grid of four times four blocks shows the square that they are
pub Shows-blocks : (w : World) (x y : ℤ) (blocks : List (List ℕ)) (grid : List ℕ) → AreTwos grid → HasBlocks blocks 16 grid → sixteen_of blocks ≡ square_at w 4 x y → Shows w 8 x y grid
Shows-blocks w x y blocks grid twos has is = record {
  each = λ row column low left.
      let r = row / 2 in
      let c = column / 2 in
      let k = 4 * r + c in
      let place = 16 * r + 2 * c in
      let at : (p q : ℕ) → p ≡ q → two_of (get_or grid p 0) ≡ two_of (get_or grid q 0) = λ p q is. ap (λ p. two_of (get_or grid p 0)) is in
      let here : corner_of k ≡ place = omega arith in
      let which : 2 * (k / 8) + k % 4 / 2 ≡ 2 * (r / 2) + c / 2 = omega arith in
      let part : 2 * (k / 4 % 2) + k % 2 ≡ 2 * (r % 2) + c % 2 = omega arith in
      let block : block_at grid place ≡ get_or (get_or blocks (2 * (r / 2) + c / 2) []) (2 * (r % 2) + c % 2) 0 =
      ap (block_at grid) (sym here) ∙ has.each k (omega arith) ∙ ap₂ (λ q b. get_or (get_or blocks q []) b 0) which part in
      let whole = sym (block_at-parts grid twos place) ∙ ap block_of block ∙ block_in w x y blocks is r c (omega arith) (omega arith) in
      let nw = at (place + 0 % 2 + 8 * (0 / 2)) place (omega arith) in
      let ne = at (place + 1 % 2 + 8 * (1 / 2)) (place + 1) (omega arith) in
      let sw = at (place + 2 % 2 + 8 * (2 / 2)) (place + 8) (omega arith) in
      let se = at (place + 3 % 2 + 8 * (3 / 2)) (place + 1 + 8) (omega arith) in
      at (8 * row + column) (place + (2 * (row % 2) + column % 2) % 2 + 8 * ((2 * (row % 2) + column % 2) / 2)) (omega arith)
      ∙ quarters w 1 _ _ (λ t. two_of (get_or grid (place + t % 2 + 8 * (t / 2)) 0)) ((λ i. four (nw i) (ne i) (sw i) (se i)) ∙ whole) (column % 2) (row % 2) (omega arith) (omega arith)
      ∙ same_square w 1 _ _ _ _ (omega (arith, ints)) (omega (arith, ints));
}

-- the four blocks of the first four places of four rows
Shows-eight : (w : World) (x y : ℤ) (grid : List ℕ) → AreTwos grid → Shows w 4 x y grid → eight_of (block_at grid 0 ∷ block_at grid 2 ∷ block_at grid 16 ∷ block_at grid 18 ∷ []) ≡ square_at w 3 x y
unfolding eight_of
Shows-eight w x y grid twos shows =
    let nw = Shows-block w 4 x y grid twos shows 0 0 (lit< tt) (lit< tt) in
    let ne = Shows-block w 4 x y grid twos shows 0 2 (lit< tt) (lit< tt) in
    let sw = Shows-block w 4 x y grid twos shows 2 0 (lit< tt) (lit< tt) in
    let se = Shows-block w 4 x y grid twos shows 2 2 (lit< tt) (lit< tt) in
    (λ i. four (nw i) (ne i) (sw i) (se i))
    ∙ sym (joined w 2 (x +ℤ pos (2 * 0)) (x +ℤ pos (2 * 2)) (y +ℤ pos (2 * 0)) (y +ℤ pos (2 * 2)) (omega (arith, ints)) (omega (arith, ints)))
    ∙ same_square w 3 _ _ _ _ (omega (arith, ints)) (omega (arith, ints))

-- a square that is put on the empty world stands there
standing : (k : ℕ) (s : Square) (x y : ℤ) → IsSquare k s → square_at (put_square k s x y blank) k x y ≡ s
standing k s x y is =
    cells.same_square k _ s (cells.square_at-IsSquare _ k x y (cells.put_square-below k s x y is)) is
    (λ i j hi hj. cells.square_at-cells _ k x y i j hi hj ∙ cells.put_square-inside k s x y blank _ _ i j is refl refl hi hj)

-- four grids later
pub four_grids : (next : List ℕ → ℕ) → next nine_zeros ≡ 0 → (blocks : List (List ℕ)) (g0 g1 g2 g3 g4 : List ℕ) → AreTwos g0 → AreTwos g1 → AreTwos g2 → AreTwos g3 → AreTwos g4 →
    HasBlocks blocks 16 g0 → IsStepped next 7 g0 g1 → IsStepped next 6 g1 g2 → IsStepped next 5 g2 g3 → IsStepped next 4 g3 g4 →
    eight_of (block_at g4 0 ∷ block_at g4 2 ∷ block_at g4 16 ∷ block_at g4 18 ∷ []) ≡ result next 2 4 (sixteen_of blocks)
unfolding iterate
four_grids next quiet blocks g0 g1 g2 g3 g4 t0 t1 t2 t3 t4 has first second third fourth =
    let x = pos 0 in
    let one_on = λ (z : ℤ). z +ℤ pos 1 in
    let s = sixteen_of blocks in
    let w = put_square 4 s x x blank in
    let is : square_at w 4 x x ≡ s = standing 4 s x x (sixteen_square blocks) in
    let w1 = step next w in
    let w2 = step next w1 in
    let w3 = step next w2 in
    let x1 = one_on x in
    let x2 = one_on x1 in
    let x3 = one_on x2 in
    let shown = Shows-blocks w x x blocks g0 t0 has (sym is) in
    let shown1 = Shows-step next quiet w 7 x x g0 g1 t0 shown first in
    let shown2 = Shows-step next quiet w1 6 x1 x1 g1 g2 t1 shown1 second in
    let shown3 = Shows-step next quiet w2 5 x2 x2 g2 g3 t2 shown2 third in
    let shown4 = Shows-step next quiet w3 4 x3 x3 g3 g4 t3 shown3 fourth in
    Shows-eight (step next w3) (one_on x3) (one_on x3) g4 t4 shown4
    ∙ same_square (step next w3) 3 _ _ _ _ (omega (arith, ints)) (omega (arith, ints))
    ∙ sym (result-steps next quiet w 2 4 x x (lit≤ tt))
    ∙ ap (result next 2 4) is
