-- Squares whose middle lies at the origin, and the worlds whose cells they have.
use Rattle.square_table.proofs.Names.{AreRows, CentredAlike, HasMargin, IsCentred, IsIn, IsPadded, IsSquare, List, Quarters, Square, SquareRow, World, [], ap, ap₂, arith, blank, cell-blank, cell_in, centred, edge, four, get_or, in_or_out}
use Rattle.square_table.proofs.Names.{inl, inr, ints, kids_at, neg_ℤ, offsets, pos, put_square, put_square-below, put_square-inside, put_square-outside, root-IsSquare, root_level, root_of, same_square, same_world, square_at}
use Rattle.square_table.proofs.Names.{square_at-IsSquare, square_at-cells, square_at-suc, square_by, square_in, square_of, subst, suc, sym, world-root, world_of_rows, zero, ℕ, ℤ, ◌+ℤ◌, ◌+◌, ◌-◌, ◌<◌, ◌^◌, ◌∙◌, ◌∷◌, ◌≡◌, ◌≤◌, ◌⊎◌}
use Rattle.std.proofs.Common.{pow_mono}
use Rattle.worlds.specs.World.{cell}
use Rattle.plane_core.proofs.Shared.Cells.{double, nw_of, ne_of, sw_of, se_of}
use Rattle.plane_core.proofs.Shared.Centring.{around_centre}
use Rattle.square_table.proofs.Shared.Growth.{square_in-quadrants}

dead : (w : World) (k : ℕ) (s : Square) (x y : ℤ) → IsCentred w k s → (IsIn (2 ^ k) (edge k) (edge k) x y → ⊥) → cell w x y ≡ 0
dead w k s x y is out = let no : 0 < cell w x y → ⊥ = λ live. out (is.inside x y live) in omega (arith, no)

-- each cell of a world on which a square is centred
pub centred_cells : (w : World) (k : ℕ) (s : Square) (i j : ℕ) → IsCentred w k s → i < 2 ^ k → j < 2 ^ k → cell_in k s i j ≡ cell w (edge k +ℤ pos i) (edge k +ℤ pos j)
centred_cells w k s i j is hi hj = ap (λ (t : Square). cell_in k t i j) is.square ∙ square_at-cells w k (edge k) (edge k) i j hi hj

-- a square is centred on one world
pub one_world : (v w : World) (k : ℕ) (s : Square) → IsCentred v k s → IsCentred w k s → v ≡ w
one_world v w k s a b =
    same_world v w (λ x y. elim (in_or_out (2 ^ k) (edge k) (edge k) x y) [
      | inl h ↦
          let at = offsets (2 ^ k) (edge k) (edge k) x y h in
          ap₂ (cell v) at.ex at.ey
          ∙ sym (centred_cells v k s at.i at.j a at.hi at.hj)
          ∙ centred_cells w k s at.i at.j b at.hi at.hj
          ∙ sym (ap₂ (cell w) at.ex at.ey)
      | inr out ↦ dead v k s x y a out ∙ sym (dead w k s x y b out)
    ])

-- the four that meet in the middle
pub middle_of : Square → Square
middle_of s = four (se_of (nw_of s)) (sw_of (ne_of s)) (ne_of (sw_of s)) (nw_of (se_of s))

half_edge : (k : ℕ) → edge (suc (suc k)) +ℤ pos (2 ^ k) ≡ edge (suc k)
half_edge k =
    let a : suc (suc k) - 1 ≡ suc k = omega arith in
    let b : suc k - 1 ≡ k = omega arith in
    let d = double k in
    let e : neg_ℤ (pos (2 ^ suc k)) +ℤ pos (2 ^ k) ≡ neg_ℤ (pos (2 ^ k)) = omega (arith, ints) in
    ap (λ n. neg_ℤ (pos (2 ^ n)) +ℤ pos (2 ^ k)) a ∙ e ∙ ap (λ n. neg_ℤ (pos (2 ^ n))) (sym b)

middle_edge : (k : ℕ) → edge (suc (suc k)) +ℤ pos (2 ^ suc k) ≡ edge (suc k) +ℤ pos (2 ^ k)
middle_edge k = grind (arith)

-- the middle of the square of a world
middle_at : (w : World) (k : ℕ) → middle_of (square_at w (suc (suc k)) (edge (suc (suc k))) (edge (suc (suc k)))) ≡ square_at w (suc k) (edge (suc k)) (edge (suc k))
unfolding middle_of nw_of ne_of sw_of se_of
middle_at w k = grind (arith, half_edge, middle_edge, square_at-suc, se_of, sw_of, ne_of, nw_of)

-- where the range of planes lies in the middle of a square, the middle is centred too
pub middle_centred : (w : World) (k : ℕ) (s : Square) → 61 ≤ k → HasMargin 0 w → IsCentred w (suc (suc k)) s → IsCentred w (suc k) (middle_of s)
middle_centred w k s high margin is = record {
  square = ap middle_of is.square ∙ middle_at w k;
  inside = λ x y live.
      let at = margin x y live in
      let left = at.left in let right = at.right in let top = at.top in let bottom = at.bottom in
      let far : 2 ^ 61 ≤ 2 ^ k = pow_mono high in
      let b : suc k - 1 ≡ k = omega arith in
      let twice = double k in
      subst (λ n. IsIn (2 ^ suc k) (neg_ℤ (pos (2 ^ n))) (neg_ℤ (pos (2 ^ n))) x y) (sym b)
      (record { left = omega (arith, ints); right = omega (arith, ints); top = omega (arith, ints); bottom = omega (arith, ints) });
}

in_middle : (e f x y : ℤ) (n m i j : ℕ) → e +ℤ pos n ≡ f → x ≡ e +ℤ pos i → y ≡ e +ℤ pos j → n ≤ i → i < m + n → n ≤ j → j < m + n → IsIn m f f x y
in_middle e f x y n m i j half ex ey left right top bottom = record { left = omega (arith, ints); right = omega (arith, ints); top = omega (arith, ints); bottom = omega (arith, ints) }

-- where a square is empty round its middle, the middle is centred too
pub middle_padded : (w : World) (k : ℕ) (s a b c d : Square) → s ≡ centred k a b c d → IsCentred w (suc (suc k)) s → IsCentred w (suc k) (middle_of s)
middle_padded w k s a b c d padded is = record {
  square = ap middle_of is.square ∙ middle_at w k;
  inside = λ x y live. elim (in_or_out (2 ^ suc k) (edge (suc k)) (edge (suc k)) x y) [
    | inl h ↦ h
    | inr out ↦
        let e = edge (suc (suc k)) in
        let at = offsets (2 ^ suc (suc k)) e e x y (is.inside x y live) in
        let none : cell_in (suc (suc k)) s at.i at.j ≡ 0 =
        ap (λ (t : Square). cell_in (suc (suc k)) t at.i at.j) padded
        ∙ around_centre k a b c d at.i at.j at.hi at.hj (λ left right top bottom. out (in_middle e (edge (suc k)) x y (2 ^ k) (2 ^ suc k) at.i at.j (half_edge k) at.ex at.ey left right top bottom)) in
        let dead_is : cell w x y ≡ 0 = ap₂ (cell w) at.ex at.ey ∙ sym (centred_cells w (suc (suc k)) s at.i at.j is at.hi at.hj) ∙ none in
        absurd (omega (arith, live, dead_is))
  ];
}

-- the middle of a square of a table, by the numbers of its quadrants
middle_in : (rows : List (List ℕ)) (k : ℕ) (kids a b c d : List ℕ) → a ≡ kids_at rows (get_or kids 0 0) → b ≡ kids_at rows (get_or kids 1 0) → c ≡ kids_at rows (get_or kids 2 0) → d ≡ kids_at rows (get_or kids 3 0)
    → middle_of (square_of rows (suc k) kids) ≡ square_of rows k (get_or a 3 0 ∷ get_or b 2 0 ∷ get_or c 1 0 ∷ get_or d 0 0 ∷ [])
unfolding middle_of nw_of ne_of sw_of se_of
middle_in rows k kids a b c d ea eb ec ed = grind (arith, square_in-quadrants, se_of, sw_of, ne_of, nw_of)

-- the square in the middle of one lies round the origin of the same worlds, where the range of planes lies in it or the rest is empty
pub middle_alike : (rows : List (List ℕ)) (whole : Quarters) (a b c d : List ℕ) → 2 ≤ whole.level → (62 < whole.level) ⊎ IsPadded rows whole
    → a ≡ kids_at rows (get_or whole.kids 0 0) → b ≡ kids_at rows (get_or whole.kids 1 0) → c ≡ kids_at rows (get_or whole.kids 2 0) → d ≡ kids_at rows (get_or whole.kids 3 0)
    → CentredAlike whole.level (square_by rows whole) (whole.level - 1) (square_of rows (whole.level - 1 - 1) (get_or a 3 0 ∷ get_or b 2 0 ∷ get_or c 1 0 ∷ get_or d 0 0 ∷ []))
middle_alike rows whole a b c d low either ea eb ec ed w margin is =
    let k = whole.level - 1 - 1 in
    let one_less : whole.level - 1 ≡ suc k = omega arith in
    let two_less : whole.level ≡ suc (suc k) = omega arith in
    let s = square_of rows (suc k) whole.kids in
    let own : IsCentred w (suc (suc k)) s = subst (λ j. IsCentred w (suc (suc k)) (square_of rows j whole.kids)) one_less (subst (λ j. IsCentred w j (square_by rows whole)) two_less is) in
    let part : IsCentred w (suc k) (middle_of s) = elim either [
      | inl high ↦ middle_centred w k s (omega (arith, high)) margin own
      | inr pad ↦ middle_padded w k s pad.nw pad.ne pad.sw pad.se (subst (λ j. square_of rows j whole.kids ≡ centred k pad.nw pad.ne pad.sw pad.se) one_less pad.is) own
    ] in
    subst (λ j. IsCentred w j (square_of rows k (get_or a 3 0 ∷ get_or b 2 0 ∷ get_or c 1 0 ∷ get_or d 0 0 ∷ []))) (sym one_less) (subst (IsCentred w (suc k)) (middle_in rows k whole.kids a b c d ea eb ec ed) part)

-- a square by the numbers of its quadrants
pub quarters_alike : (rows : List (List ℕ)) (k n : ℕ) (kids : List ℕ) → 0 < k → kids ≡ kids_at rows n → CentredAlike k (square_in rows k n) k (square_of rows (k - 1) kids)
quarters_alike rows zero n kids low e = absurd (omega (arith, low))
quarters_alike rows (suc k) n kids low e = λ w margin is.
    let less : k ≡ suc k - 1 = omega arith in
    subst (λ j. IsCentred w (suc k) (square_of rows j kids)) less (subst (IsCentred w (suc k)) (square_in-quadrants rows k n ∙ ap (square_of rows k) (sym e)) is)

-- the world that a square makes round the origin
pub put_centred : (k : ℕ) (s : Square) → IsSquare k s → IsCentred (put_square k s (edge k) (edge k) blank) k s
put_centred k s is =
    let e = edge k in
    let w = put_square k s e e blank in
    record {
      square = same_square k s (square_at w k e e) is (square_at-IsSquare w k e e (put_square-below k s e e is)) (λ i j hi hj. grind (arith, put_square-inside k s e e blank, square_at-cells w k e e i j));
      inside = λ x y live. grind (arith, in_or_out, put_square-outside k s e e blank x y is, cell-blank);
    }

-- the root of a plane's rows is centred
pub root_centred : (rows : List SquareRow) → AreRows rows → IsCentred (world_of_rows rows) (root_level rows) (root_of rows)
root_centred rows valid = rw (world-root) (put_centred (root_level rows) (root_of rows) (root-IsSquare rows valid))

-- is the one on which it is centred
pub put_world : (w : World) (k : ℕ) (s : Square) → IsSquare k s → IsCentred w k s → put_square k s (edge k) (edge k) blank ≡ w
put_world w k s is centred_is = one_world _ w k s (put_centred k s is) centred_is
