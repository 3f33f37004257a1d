-- A square whose live cells lie in its middle stands for the same world as the square in the middle.
use Rattle.plane_core.proofs.Names.{AllBelow, Fits, IsSquare, Square, World, ap, ap₂, arith, blank, cell, cell-blank, centred, cornered, edge_of, empty_square, four, inl, inr, ints, nat_tests, pos, put_square, same_world, square_at, suc}
use Rattle.plane_core.proofs.Names.{sym, ℕ, ℤ, ◌+ℤ◌, ◌+◌, ◌-◌, ◌<◌, ◌^◌, ◌∙◌, ◌≡◌, ◌≤◌}
use Rattle.worlds.specs.Square.{cell_in}
use Rattle.plane_core.proofs.Shared.Cells.{double, cell_in-empty, IsSquare-empty, IsSquare-parts, in_or_out, offsets, nw_of, ne_of, sw_of, se_of}
use Rattle.plane_core.proofs.Shared.Cells.{put_square-four, put_square-clear, put_square-inside, put_square-outside, put_square-below, same_put, square_at-IsSquare, square_at-suc, square_at-cells}
use Rattle.plane_core.proofs.Totals.{IsFree, puts_free, free_parts}

-- outside the middle of a centred square no cell is live
pub around_centre : (k : ℕ) (a b c d : Square) (i j : ℕ) → i < 2 ^ suc (suc k) → j < 2 ^ suc (suc k) →
    ((2 ^ k ≤ i) → (i < 2 ^ suc k + 2 ^ k) → (2 ^ k ≤ j) → (j < 2 ^ suc k + 2 ^ k) → ⊥) →
    cell_in (suc (suc k)) (centred k a b c d) i j ≡ 0
unfolding cell_in
around_centre k a b c d i j hi hj out = grind (arith, nat_tests, double, cell_in-empty)

-- a square with one quadrant is put as that quadrant where no cell was live
module _ (k : ℕ) (s : Square) (l t : ℤ) (w : World) (is : IsSquare k s) (free : IsFree (suc k) l t w) where
  put-nw : put_square (suc k) (cornered k 0 s) l t w ≡ put_square k s l t w
  put-nw =
      let e = empty_square k in
      let on = puts_free k s e e l t w is (IsSquare-empty k) (IsSquare-empty k) free in
      put_square-four k s e e e l t w
      ∙ put_square-clear k _ _ _ on.se ∙ put_square-clear k _ _ _ on.sw ∙ put_square-clear k _ _ _ on.ne

  put-ne : put_square (suc k) (cornered k 1 s) l t w ≡ put_square k s (l +ℤ pos (2 ^ k)) t w
  put-ne =
      let e = empty_square k in
      let on = puts_free k e s e l t w (IsSquare-empty k) is (IsSquare-empty k) free in
      grind (arith, put_square-four, put_square-clear, free_parts)

  put-sw : put_square (suc k) (cornered k 2 s) l t w ≡ put_square k s l (t +ℤ pos (2 ^ k)) w
  put-sw =
      let e = empty_square k in
      let on = puts_free k e e s l t w (IsSquare-empty k) (IsSquare-empty k) is free in
      grind (arith, put_square-four, put_square-clear, free_parts)

  put-se : put_square (suc k) (cornered k 3 s) l t w ≡ put_square k s (l +ℤ pos (2 ^ k)) (t +ℤ pos (2 ^ k)) w
  put-se = grind (arith, puts_free, IsSquare-empty, put_square-four, put_square-clear, free_parts)

-- a root of a level
abbrev pub root_world : ℕ → Square → World
root_world k s = put_square k s (edge_of k) (edge_of k) blank

module _ (k : ℕ) (a b c d : Square) (ia : IsSquare k a) (ib : IsSquare k b) (ic : IsSquare k c) (id : IsSquare k d) where
  centred-IsSquare : IsSquare (suc (suc k)) (centred k a b c d)
  centred-IsSquare = grind (arith, IsSquare-empty, IsSquare-parts)

  -- the square in the middle stands for the same world
  pub centred-world : root_world (suc (suc k)) (centred k a b c d) ≡ root_world (suc k) (four a b c d)
  centred-world =
      let n = 2 ^ k in
      let m = 2 ^ suc k in
      let l = edge_of (suc (suc k)) in
      let e = IsSquare-empty k in
      let nw = cornered k 3 a in let ne = cornered k 2 b in let sw = cornered k 1 c in let se = cornered k 0 d in
      let on = puts_free (suc k) nw ne sw l l blank (IsSquare-parts k _ _ _ _ e e e ia)
      (IsSquare-parts k _ _ _ _ e e ib e) (IsSquare-parts k _ _ _ _ e ic e e) (λ x y h. cell-blank x y) in
      let inner : edge_of (suc k) ≡ l +ℤ pos n = edges in
      let middle : edge_of (suc k) +ℤ pos n ≡ l +ℤ pos m = omega (arith, ints, inner, double k) in
      let r = l +ℤ pos m in let h = l +ℤ pos n in
      put_square-four (suc k) nw ne sw se l l blank
      ∙ put-nw k d r r _ id on.se
      ∙ ap (put_square k d r r) (put-ne k c l r _ ic on.sw)
      ∙ ap (λ w. put_square k d r r (put_square k c h r w)) (put-sw k b r l _ ib on.ne)
      ∙ ap (λ w. put_square k d r r (put_square k c h r (put_square k b r h w)))
      (put-se k a l l blank ia (λ x y h. cell-blank x y))
      ∙ (λ i. put_square k d (sym middle i) (sym middle i) (put_square k c (sym inner i) (sym middle i)
      (put_square k b (sym middle i) (sym inner i) (put_square k a (sym inner i) (sym inner i) blank))))
      ∙ sym (put_square-four k a b c d (edge_of (suc k)) (edge_of (suc k)) blank)
    where
      edges : edge_of (suc k) ≡ edge_of (suc (suc k)) +ℤ pos (2 ^ k)
      edges =
          let one_less : 2 ^ (suc k - 1) ≡ 2 ^ k = ap (λ j. 2 ^ j) (omega arith) in
          let two_less : 2 ^ (suc (suc k) - 1) ≡ 2 ^ suc k = ap (λ j. 2 ^ j) (omega arith) in
          omega (arith, ints, double k)

-- the square of a world in a root that holds it stands for the world
pub root-world : (w : World) (k : ℕ) → Fits k w → AllBelow 256 w →
    root_world k (square_at w k (edge_of k) (edge_of k)) ≡ w
root-world w k fits small =
    let edge = edge_of k in
    let t = square_at w k edge edge in
    let is : IsSquare k t = square_at-IsSquare w k edge edge small in
    same_world _ w (λ x y. elim (in_or_out (2 ^ k) edge edge x y) [
      | inl h ↦
          let at = offsets (2 ^ k) edge edge x y h in
          put_square-inside k t edge edge blank x y at.i at.j is at.ex at.ey at.hi at.hj
          ∙ square_at-cells w k edge edge at.i at.j at.hi at.hj ∙ ap₂ (cell w) (sym at.ex) (sym at.ey)
      | inr out ↦ grind (arith, put_square-outside, cell-blank)
    ])

-- the quadrants of a centred square
pub record HasCorners (k : ℕ) (nw ne sw se : Square) : Type 0 where
  pub a : Square
  pub b : Square
  pub c : Square
  pub d : Square
  pub nw_is : nw ≡ cornered k 3 a
  pub ne_is : ne ≡ cornered k 2 b
  pub sw_is : sw ≡ cornered k 1 c
  pub se_is : se ≡ cornered k 0 d

-- where the live cells fit the middle, the square is centred, and each quadrant has them at its corner
pub fits-corners : (k : ℕ) (nw ne sw se : Square) → IsSquare (suc (suc k)) (four nw ne sw se) →
    Fits (suc k) (root_world (suc (suc k)) (four nw ne sw se)) → HasCorners k nw ne sw se
unfolding nw_of ne_of sw_of se_of
fits-corners k nw ne sw se is fits =
    let w = root_world (suc (suc k)) (four nw ne sw se) in
    let l = edge_of (suc k) in
    let r = l +ℤ pos (2 ^ k) in
    let small = put_square-below (suc (suc k)) (four nw ne sw se) _ _ is in
    let s = square_at w k in
    let part = λ (x y : ℤ). square_at-IsSquare w k x y small in
    let middle = centred-world k (s l l) (s r l) (s l r) (s r r) (part l l) (part r l) (part l r) (part r r) in
    let e : four nw ne sw se ≡ centred k (s l l) (s r l) (s l r) (s r r) =
    same_put (suc (suc k)) _ _ _ _ is (centred-IsSquare k _ _ _ _ (part l l) (part r l) (part l r) (part r r))
    (sym (middle ∙ ap (root_world (suc k)) (sym (square_at-suc w k l l)) ∙ root-world w (suc k) fits small)) in
    grind (arith)
