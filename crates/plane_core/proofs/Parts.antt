-- Squares that stand at places of a world, and their quadrants.
use Rattle.plane_core.proofs.Names.{AreRows, Covers, IsIn, IsKid, IsNumber, IsPart, IsQuadrant, IsRoot, List, Part, Shows, Square, SquareRow, World, ap, ap₂, arith, cases_lt, cell, cell_in, common_steps, cond, east, edge_of, four, inl, inr}
use Rattle.plane_core.proofs.Names.{int_le, ints, kid, length, pos, pow_mono, quadrant_at, root_level, row_at, south, square_in, subst, suc, sym, world_of_rows, ℕ, ℤ, ◌+ℤ◌, ◌+◌, ◌-◌, ◌<◌, ◌^◌, ◌∙◌, ◌≡◌, ◌≤◌}
use Rattle.plane_core.proofs.Shared.Cells.{cell_in-nw, cell_in-ne, cell_in-sw, cell_in-se, cell_in-empty, cell_in-one, offsets}
use Rattle.plane_core.proofs.Shared.Roots.{root-cells, root-side, rooted, root-Fits}
use Rattle.plane_core.proofs.Shared.Sound.{each_of_four, square_in-number, square_in-none, square_in-state, zero-IsNumber, number-kid}

pub east-le : (h q : ℕ) → east h q ≤ h
east-le h q = grind (arith)

pub south-le : (h q : ℕ) → south h q ≤ h
south-le h q = grind (arith)

-- which of four squares of side h around (l, t) holds (x, y)
abbrev place : ℕ → ℤ → ℤ → ℤ → ℤ → ℕ
place h l t x y = cond (int_le (t +ℤ pos h) y) (cond (int_le (l +ℤ pos h) x) 3 2) (cond (int_le (l +ℤ pos h) x) 1 0)

module _ (h : ℕ) (l t x y : ℤ) where
  pub placed : (q : ℕ) → q < 4 → IsIn h (l +ℤ pos (east h q)) (t +ℤ pos (south h q)) x y → IsIn (h + h) l t x y × (place h l t x y ≡ q)
  placed q few is =
      let by = λ (q : ℕ). IsIn h (l +ℤ pos (east h q)) (t +ℤ pos (south h q)) x y → place h l t x y ≡ q in (
        grind (arith, ints),
        each_of_four by (λ is. grind (arith, ints)) (λ is. grind (arith, ints))
            (λ is. grind (arith, ints)) (λ is. grind (arith, ints)) q few is,
      )

  pub found : (q : ℕ) → q ≡ place h l t x y → IsIn (h + h) l t x y → IsIn h (l +ℤ pos (east h q)) (t +ℤ pos (south h q)) x y
  found q e is = grind (arith, ints)

pub moved : (n m : ℕ) (l l' t t' x y : ℤ) → n ≡ m → l ≡ l' → t ≡ t' → IsIn n l t x y → IsIn m l' t' x y
moved n m l l' t t' x y en el et is = grind (arith, ints)

-- what a quadrant covers is what its square covers there
module _ (q : ℕ) (p r : Part) (some : 1 ≤ p.level) (few : q < 4) (is : IsQuadrant q p r) (x y : ℤ) where
  half : 2 ^ r.level ≡ 2 ^ (p.level - 1)
  half = ap (λ k. 2 ^ k) is.level

  pub in_quadrant : Covers r x y → Covers p x y × (quadrant_at p x y ≡ q)
  in_quadrant h = grind (arith, ints, common_steps, moved, root-side)

  pub of_quadrant : Covers p x y → quadrant_at p x y ≡ q → Covers r x y
  of_quadrant h e = grind (arith, moved, found, root-side)

-- which quadrant holds a cell that lies so far to the right and down
pub record IsSplit (h x y : ℕ) : Type 0 where
  pub q : ℕ
  pub i : ℕ
  pub j : ℕ
  pub few : q < 4
  pub at_x : x ≡ east h q + i
  pub at_y : y ≡ south h q + j
  pub hi : i < h
  pub hj : j < h

pub quadrant-split : (h x y : ℕ) → x < h + h → y < h + h → IsSplit h x y
quadrant-split h x y hx hy =
    elim (cases_lt x h) [
      | inl a ↦ elim (cases_lt y h) [
        | inl b ↦ record { q = 0; i = x; j = y; few = omega arith; at_x = omega arith; at_y = omega arith; hi = a; hj = b }
        | inr b ↦ record { q = 2; i = x; j = y - h; few = omega arith; at_x = omega arith; at_y = omega arith; hi = a; hj = omega arith }
      ]
      | inr a ↦ elim (cases_lt y h) [
        | inl b ↦ record { q = 1; i = x - h; j = y; few = omega arith; at_x = omega arith; at_y = omega arith; hi = omega arith; hj = b }
        | inr b ↦ record { q = 3; i = x - h; j = y - h; few = omega arith; at_x = omega arith; at_y = omega arith; hi = omega arith; hj = omega arith }
      ]
    ]

-- a cell of a quadrant
pub quadrant-cell : (k q i j : ℕ) (f : ℕ → Square) → q < 4 → i < 2 ^ k → j < 2 ^ k → cell_in (suc k) (four (f 0) (f 1) (f 2) (f 3)) (east (2 ^ k) q + i) (south (2 ^ k) q + j) ≡ cell_in k (f q) i j
quadrant-cell k q i j f few hi hj = grind (arith, cell_in-nw, cell_in-ne, cell_in-sw, cell_in-se)

-- the kids of a row name its quadrants
kid-cells : (rows : List SquareRow) (k n q i j : ℕ) → 1 ≤ k → 0 < n → q < 4 → i < 2 ^ (k - 1) → j < 2 ^ (k - 1)
    → cell_in k (square_in rows k n) (east (2 ^ (k - 1)) q + i) (south (2 ^ (k - 1)) q + j) ≡ cell_in (k - 1) (square_in rows (k - 1) (kid (row_at rows n) q)) i j
kid-cells rows k n q i j some live few hi hj =
    let at = square_in-number rows (k - 1) n live in
    let cells = quadrant-cell (k - 1) q i j (λ q. square_in rows (k - 1) (kid (row_at rows n) q)) few hi hj in
    grind (arith)

-- no cell of the square 0 is live
none-cell : (rows : List SquareRow) (k i j : ℕ) → cell_in k (square_in rows k 0) i j ≡ 0
none-cell rows k i j = ap (λ (s : Square). cell_in k s i j) (square_in-none rows k) ∙ cell_in-empty k i j

pub kid-none : (rows : List SquareRow) (p : Part) (q : ℕ) → p.number ≡ 0 → IsKid rows p q 0
kid-none rows p q none = grind (arith, zero-IsNumber, none-cell)

pub kid-row : (rows : List SquareRow) (p : Part) (q : ℕ) → IsPart rows p → 1 ≤ p.level → 0 < p.number → q < 4 → IsKid rows p q (kid (row_at rows p.number) q)
kid-row rows p q is some live few = grind (arith, number-kid, kid-cells)

-- the cells of the world that a square shows
pub shows-cell : (w : World) (rows : List SquareRow) (p : Part) (x y : ℤ) → Shows w rows p → Covers p x y → (i : ℕ) × (j : ℕ) × (cell w x y ≡ cell_in p.level (square_in rows p.level p.number) i j)
shows-cell w rows p x y shows h = let at = offsets (2 ^ p.level) p.corner.x p.corner.y x y h in (at.i, at.j, ap₂ (cell w) at.ex at.ey ∙ shows.cells at.i at.j at.hi at.hj)

-- no cell is live where the number is 0
pub shows-none : (w : World) (rows : List SquareRow) (p : Part) (x y : ℤ) → p.number ≡ 0 → Shows w rows p → Covers p x y → cell w x y ≡ 0
shows-none w rows p x y none shows h = grind (arith, shows-cell, none-cell)

-- one cell is its number
pub state-cell : (rows : List SquareRow) (k n i j : ℕ) → k ≡ 0 → cell_in k (square_in rows k n) i j ≡ n
state-cell rows k n i j is = ap (λ k. cell_in k (square_in rows k n) i j) is ∙ ap (λ (s : Square). cell_in 0 s i j) (square_in-state rows n) ∙ cell_in-one 0 n i j

pub shows-state : (w : World) (rows : List SquareRow) (p : Part) (x y : ℤ) → p.level ≡ 0 → Shows w rows p → Covers p x y → cell w x y ≡ p.number
shows-state w rows p x y is shows h = let at = shows-cell w rows p x y shows h in at.2 ∙ state-cell rows p.level p.number at.0 at.1 is

pub shows-one : (w : World) (rows : List SquareRow) (p : Part) → p.level ≡ 0 → cell w p.corner.x p.corner.y ≡ p.number → Shows w rows p
shows-one w rows p is state = grind (arith, ints, state-cell)

-- a quadrant shows what its square shows
pub shows-quadrant : (w : World) (rows : List SquareRow) (q : ℕ) (p r : Part) → r.level ≡ p.level - 1 → 1 ≤ p.level → IsQuadrant q p r → IsKid rows p q r.number → Shows w rows p → Shows w rows r
shows-quadrant w rows q p r level some is kid shows = record {
  cells = λ i j hi hj.
      let h = 2 ^ (p.level - 1) in
      let a = east-le h q in let b = south-le h q in let twice = root-side p.level some in
      let half : 2 ^ r.level ≡ h = ap (λ k. 2 ^ k) level in
      ap₂ (cell w) (omega (arith, ints)) (omega (arith, ints))
      ∙ shows.cells (east h q + i) (south h q + j) (omega arith) (omega arith)
      ∙ kid.cells i j (omega arith) (omega arith)
      ∙ ap (λ k. cell_in k (square_in rows k r.number) i j) (sym level);
}

-- it lies in the range of planes
pub quadrant-IsPart : (rows : List SquareRow) (q : ℕ) (p r : Part) → 1 ≤ p.level → IsPart rows p → IsQuadrant q p r → IsKid rows p q r.number → IsPart rows r
quadrant-IsPart rows q p r some is quadrant kid =
    let h = 2 ^ (p.level - 1) in
    let a = east-le h q in let b = south-le h q in let twice = root-side p.level some in
    let ex = quadrant.x in let ey = quadrant.y in let level = quadrant.level in
    let half : 2 ^ r.level ≡ h = ap (λ k. 2 ^ k) level in
    let low = is.on_plane.across.low in let high = is.on_plane.across.high in let top = is.on_plane.down.low in let bottom = is.on_plane.down.high in
    record {
      valid = is.valid;
      number = subst (λ k. IsNumber rows k r.number) (sym level) kid.number;
      on_plane = record {
        level = omega arith;
        across = record { low = omega (arith, ints); high = omega (arith, ints) };
        down = record { low = omega (arith, ints); high = omega (arith, ints) };
      };
    }

-- the root shows the world
pub is_root : (rows : List SquareRow) (p : Part) → AreRows rows → p.level ≡ root_level rows → p.number ≡ length rows → p.corner.x ≡ edge_of p.level → p.corner.y ≡ edge_of p.level → IsRoot rows p
is_root rows p valid level number ex ey = grind (arith, ints, rooted, root-side, pow_mono, root-cells)

-- it covers each live cell
pub root-live : (rows : List SquareRow) (p : Part) (x y : ℤ) → IsRoot rows p → 0 < cell (world_of_rows rows) x y → Covers p x y
root-live rows p x y root live = moved _ _ _ _ _ _ x y (ap (λ k. 2 ^ k) (sym root.level)) (sym root.x) (sym root.y) (root-Fits rows root.part.valid x y live)

pub root-outside : (rows : List SquareRow) (p : Part) (x y : ℤ) → IsRoot rows p → (Covers p x y → ⊥) → cell (world_of_rows rows) x y ≡ 0
root-outside rows p x y root out = grind (arith, cases_lt, root-live)
