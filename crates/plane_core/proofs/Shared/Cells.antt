-- The cells of squares: where a square is put on a world, and that squares with the same cells are equal.
use Rattle.plane_core.proofs.Names.{AllBelow, Bool, IsClear, IsIn, Square, World, ap, ap₂, arith, blank, by_lt_z, cases_lt, cell, cell-blank, cell-put, cond, cond-false, cond-true, false_from_ne_true, four, inl, inr, ints, is_same, le-leb}
use Rattle.plane_core.proofs.Names.{lt-leb, nat_le, one, pos, pow-suc, put, refl, same_is, same_world, suc, sym, unsigned_abs, zero, ℕ, ℤ, ◌+ℤ◌, ◌+◌, ◌-ℤ◌, ◌-◌, ◌<◌, ◌^◌, ◌∙◌, ◌≡◌, ◌≤ℤ◌, ◌≤◌, ◌⊎◌}
use Rattle.worlds.specs.Square.{empty_square, IsSquare, cell_in, put_square, square_at}

-- a side is twice that of the quadrants
pub double : (k : ℕ) → 2 ^ suc k ≡ 2 ^ k + 2 ^ k
double k = omega (arith, pow-suc 2 k)

-- the quadrants of a square
unfoldable pub nw_of : Square → Square
nw_of (one s) = one s
nw_of (four nw ne sw se) = nw

unfoldable pub ne_of : Square → Square
ne_of (one s) = one s
ne_of (four nw ne sw se) = ne

unfoldable pub sw_of : Square → Square
sw_of (one s) = one s
sw_of (four nw ne sw se) = sw

unfoldable pub se_of : Square → Square
se_of (one s) = one s
se_of (four nw ne sw se) = se

-- the cells of each quadrant
module _ (k : ℕ) (nw ne sw se : Square) (i j : ℕ) where
  pub cell_in-nw : i < 2 ^ k → j < 2 ^ k → cell_in (suc k) (four nw ne sw se) i j ≡ cell_in k nw i j
  unfolding cell_in
  cell_in-nw x y = cond-false _ _ _ (lt-leb (2 ^ k) j y) ∙ cond-false _ _ _ (lt-leb (2 ^ k) i x)

  pub cell_in-ne : 2 ^ k ≤ i → j < 2 ^ k → cell_in (suc k) (four nw ne sw se) i j ≡ cell_in k ne (i - 2 ^ k) j
  unfolding cell_in
  cell_in-ne x y = cond-false _ _ _ (lt-leb (2 ^ k) j y) ∙ cond-true _ _ _ (le-leb (2 ^ k) i x)

  pub cell_in-sw : i < 2 ^ k → 2 ^ k ≤ j → cell_in (suc k) (four nw ne sw se) i j ≡ cell_in k sw i (j - 2 ^ k)
  unfolding cell_in
  cell_in-sw x y = cond-true _ _ _ (le-leb (2 ^ k) j y) ∙ cond-false _ _ _ (lt-leb (2 ^ k) i x)

  pub cell_in-se : 2 ^ k ≤ i → 2 ^ k ≤ j → cell_in (suc k) (four nw ne sw se) i j ≡ cell_in k se (i - 2 ^ k) (j - 2 ^ k)
  unfolding cell_in
  cell_in-se x y = cond-true _ _ _ (le-leb (2 ^ k) j y) ∙ cond-true _ _ _ (le-leb (2 ^ k) i x)

pub cell_in-one : (k s i j : ℕ) → cell_in k (one s) i j ≡ s
unfolding cell_in
cell_in-one k s i j = refl

pub IsSquare-parts : (k : ℕ) (nw ne sw se : Square) → IsSquare k nw → IsSquare k ne → IsSquare k sw → IsSquare k se → IsSquare (suc k) (four nw ne sw se)
unfolding IsSquare
IsSquare-parts k nw ne sw se a b c d = (a, b, c, d)

pub IsSquare-one : (s : ℕ) → s < 256 → IsSquare 0 (one s)
unfolding IsSquare
IsSquare-one s h = h

pub IsSquare-empty : (k : ℕ) → IsSquare k (empty_square k)
unfolding empty_square IsSquare
IsSquare-empty zero = omega arith
IsSquare-empty (suc k) = let e = IsSquare-empty k in (e, e, e, e)

-- what holds of the cell in each quadrant holds of the one that two tests choose
in_all : (P : ℕ → Type 0) (b c : Bool) (p q r s : ℕ) → P p → P q → P r → P s →
    P (cond b (cond c p q) (cond c r s))
in_all P b c p q r s hp hq hr hs = grind (arith)

-- no cell of an empty square is live
pub cell_in-empty : (k i j : ℕ) → cell_in k (empty_square k) i j ≡ 0
unfolding empty_square cell_in
cell_in-empty zero i j = refl
cell_in-empty (suc k) i j =
    let e = cell_in-empty k in
    in_all (λ n. n ≡ 0) (nat_le (2 ^ k) j) (nat_le (2 ^ k) i) _ _ _ _ (e _ _) (e _ _) (e _ _) (e _ _)

-- the cells of a square are states
cell_in-below : (k : ℕ) (t : Square) (i j : ℕ) → IsSquare k t → cell_in k t i j < 256
unfolding IsSquare cell_in
cell_in-below zero (one s) i j is = is
cell_in-below zero (four a b c d) i j is = absurd is
cell_in-below (suc k) (one s) i j is = absurd is
cell_in-below (suc k) (four a b c d) i j is =
    let at = λ (t : Square) (h : IsSquare k t) (i j : ℕ). cell_in-below k t i j h in
    in_all (λ n. n < 256) (nat_le (2 ^ k) j) (nat_le (2 ^ k) i) _ _ _ _
    (at d is.3 _ _) (at c is.2 _ _) (at b is.1 _ _) (at a is.0 _ _)

-- two squares have the same cells
abbrev pub SameCells : ℕ → Square → Square → Type 0
SameCells k t u = (i j : ℕ) → i < 2 ^ k → j < 2 ^ k → cell_in k t i j ≡ cell_in k u i j

-- squares with the same cells are equal
pub same_square : (k : ℕ) (t u : Square) → IsSquare k t → IsSquare k u → SameCells k t u → t ≡ u
unfolding IsSquare
same_square zero (one s) (one r) ht hu same =
    let is : s ≡ r = sym (cell_in-one 0 s 0 0) ∙ same 0 0 (omega arith) (omega arith) ∙ cell_in-one 0 r 0 0 in
    λ i. one (is i)
same_square zero (one s) (four a b c d) ht hu same = absurd hu
same_square zero (four a b c d) u ht hu same = absurd ht
same_square (suc k) (one s) u ht hu same = absurd ht
same_square (suc k) (four a b c d) (one s) ht hu same = absurd hu
same_square (suc k) (four a b c d) (four e f g h) ht hu same =
    let n = 2 ^ k in
    let back = λ (i : ℕ). let is : (n + i) - n ≡ i = omega arith in is in
    let nw = same_square k a e ht.0 hu.0 (λ i j x y. sym (cell_in-nw k a b c d i j x y) ∙ same i j (omega arith) (omega arith) ∙ cell_in-nw k e f g h i j x y) in
    let ne = same_square k b f ht.1 hu.1 (λ i j x y.
    ap (λ m. cell_in k b m j) (sym (back i)) ∙ sym (cell_in-ne k a b c d (n + i) j (omega arith) y) ∙ same (n + i) j (omega arith) (omega arith)
    ∙ cell_in-ne k e f g h (n + i) j (omega arith) y ∙ ap (λ m. cell_in k f m j) (back i)) in
    let sw = same_square k c g ht.2 hu.2 (λ i j x y.
    ap (λ m. cell_in k c i m) (sym (back j)) ∙ sym (cell_in-sw k a b c d i (n + j) x (omega arith)) ∙ same i (n + j) (omega arith) (omega arith)
    ∙ cell_in-sw k e f g h i (n + j) x (omega arith) ∙ ap (λ m. cell_in k g i m) (back j)) in
    let se = same_square k d h ht.3 hu.3 (λ i j x y.
    ap₂ (cell_in k d) (sym (back i)) (sym (back j)) ∙ sym (cell_in-se k a b c d (n + i) (n + j) (omega arith) (omega arith)) ∙ same (n + i) (n + j) (omega arith) (omega arith)
    ∙ cell_in-se k e f g h (n + i) (n + j) (omega arith) (omega arith) ∙ ap₂ (cell_in k h) (back i) (back j)) in
    λ i. four (nw i) (ne i) (sw i) (se i)

-- a quadrant lies in its square
pub in_part : (n m : ℕ) (l t l' t' x y : ℤ) → m ≡ n + n → l ≤ℤ l' → l' ≤ℤ (l +ℤ pos n) → t ≤ℤ t' → t' ≤ℤ (t +ℤ pos n) → IsIn n l' t' x y → IsIn m l t x y
in_part n m l t l' t' x y twice a b c d h = grind (arith, ints)

-- a place lies in a square, or it doesn't
pub in_or_out : (n : ℕ) (l t x y : ℤ) → IsIn n l t x y ⊎ (IsIn n l t x y → ⊥)
in_or_out n l t x y = grind (arith, ints, by_lt_z)

pub put_square-four : (k : ℕ) (nw ne sw se : Square) (l t : ℤ) (w : World)
    → put_square (suc k) (four nw ne sw se) l t w ≡ put_square k se (l +ℤ pos (2 ^ k)) (t +ℤ pos (2 ^ k)) (put_square k sw l (t +ℤ pos (2 ^ k)) (put_square k ne (l +ℤ pos (2 ^ k)) t (put_square k nw l t w)))
unfolding put_square
put_square-four k nw ne sw se l t w = refl

pub put_square-one : (k s : ℕ) (l t : ℤ) (w : World) → put_square k (one s) l t w ≡ put w l t s
unfolding put_square
put_square-one k s l t w = refl

-- outside a square that is put the world stays
pub put_square-outside : (k : ℕ) (s : Square) (l t : ℤ) (w : World) (x y : ℤ) → IsSquare k s → (IsIn (2 ^ k) l t x y → ⊥) → cell (put_square k s l t w) x y ≡ cell w x y
unfolding IsSquare
put_square-outside zero (one s) l t w x y is out =
    grind (arith, ints, put_square-one, cell-put, cond-false, false_from_ne_true, same_is)
put_square-outside (suc k) (one s) l t w x y is out = absurd is
put_square-outside zero (four nw ne sw se) l t w x y is out = absurd is
put_square-outside (suc k) (four nw ne sw se) l t w x y is out =
    let n = 2 ^ k in
    let twice = double k in
    ap (λ v. cell v x y) (put_square-four k nw ne sw se l t w)
    ∙ put_square-outside k se _ _ _ x y is.3 (λ h. out (in_part n (2 ^ suc k) l t (l +ℤ pos n) (t +ℤ pos n) x y twice (omega (arith, ints)) (omega (arith, ints)) (omega (arith, ints)) (omega (arith, ints)) h))
    ∙ put_square-outside k sw _ _ _ x y is.2 (λ h. out (in_part n (2 ^ suc k) l t l (t +ℤ pos n) x y twice (omega (arith, ints)) (omega (arith, ints)) (omega (arith, ints)) (omega (arith, ints)) h))
    ∙ put_square-outside k ne _ _ _ x y is.1 (λ h. out (in_part n (2 ^ suc k) l t (l +ℤ pos n) t x y twice (omega (arith, ints)) (omega (arith, ints)) (omega (arith, ints)) (omega (arith, ints)) h))
    ∙ put_square-outside k nw l t w x y is.0 (λ h. out (in_part n (2 ^ suc k) l t l t x y twice (omega (arith, ints)) (omega (arith, ints)) (omega (arith, ints)) (omega (arith, ints)) h))

-- inside it the cells are those of the square
pub put_square-inside : (k : ℕ) (s : Square) (l t : ℤ) (w : World) (x y : ℤ) (i j : ℕ) → IsSquare k s → x ≡ l +ℤ pos i → y ≡ t +ℤ pos j → i < 2 ^ k → j < 2 ^ k
    → cell (put_square k s l t w) x y ≡ cell_in k s i j
unfolding IsSquare
put_square-inside zero (one s) l t w x y i j is ex ey hi hj =
    grind (arith, ints, put_square-one, cell-put, cond-true, is_same, cell_in-one)
put_square-inside (suc k) (one s) l t w x y i j is ex ey hi hj = absurd is
put_square-inside zero (four nw ne sw se) l t w x y i j is ex ey hi hj = absurd is
put_square-inside (suc k) (four nw ne sw se) l t w x y i j is ex ey hi hj =
    let n = 2 ^ k in
    ap (λ v. cell v x y) (put_square-four k nw ne sw se l t w)
    ∙ elim (cases_lt i n) [
      | inl lx ↦ elim (cases_lt j n) [
        | inl ly ↦
            put_square-outside k se _ _ _ x y is.3 (λ h. let g = h.left in absurd (omega (arith, ints)))
            ∙ put_square-outside k sw _ _ _ x y is.2 (λ h. let g = h.top in absurd (omega (arith, ints)))
            ∙ put_square-outside k ne _ _ _ x y is.1 (λ h. let g = h.left in absurd (omega (arith, ints)))
            ∙ put_square-inside k nw l t w x y i j is.0 ex ey lx ly
            ∙ sym (cell_in-nw k nw ne sw se i j lx ly)
        | inr ly ↦
            put_square-outside k se _ _ _ x y is.3 (λ h. let g = h.left in absurd (omega (arith, ints)))
            ∙ put_square-inside k sw l (t +ℤ pos n) _ x y i (j - n) is.2 ex (omega (arith, ints)) lx (omega arith)
            ∙ sym (cell_in-sw k nw ne sw se i j lx ly)
      ]
      | inr lx ↦ elim (cases_lt j n) [
        | inl ly ↦
            put_square-outside k se _ _ _ x y is.3 (λ h. let g = h.top in absurd (omega (arith, ints)))
            ∙ put_square-outside k sw _ _ _ x y is.2 (λ h. let g = h.right in absurd (omega (arith, ints)))
            ∙ put_square-inside k ne (l +ℤ pos n) t _ x y (i - n) j is.1 (omega (arith, ints)) ey (omega arith) ly
            ∙ sym (cell_in-ne k nw ne sw se i j lx ly)
        | inr ly ↦
            put_square-inside k se (l +ℤ pos n) (t +ℤ pos n) _ x y (i - n) (j - n) is.3 (omega (arith, ints)) (omega (arith, ints)) (omega arith) (omega arith)
            ∙ sym (cell_in-se k nw ne sw se i j lx ly)
      ]
    ]

-- how far a coordinate lies from an edge
pub offset : (l x : ℤ) → l ≤ℤ x → (i : ℕ) × (x ≡ l +ℤ pos i)
offset l x h = (unsigned_abs (x -ℤ l), omega (arith, ints))

-- how far a place of a square lies from the upper left cell
pub record IsAway (n : ℕ) (l t x y : ℤ) : Type 0 where
  pub i : ℕ
  pub j : ℕ
  pub ex : x ≡ l +ℤ pos i
  pub ey : y ≡ t +ℤ pos j
  pub hi : i < n
  pub hj : j < n

pub offsets : (n : ℕ) (l t x y : ℤ) → IsIn n l t x y → IsAway n l t x y
offsets n l t x y h = grind (arith, ints, offset)

-- an empty square is put where no cell is live
pub put_square-clear : (k : ℕ) (l t : ℤ) (w : World) → IsClear (2 ^ k) l t w → put_square k (empty_square k) l t w ≡ w
put_square-clear k l t w clear =
    same_world _ w (λ x y.
    elim (in_or_out (2 ^ k) l t x y) [
      | inl h ↦
          let at = offsets (2 ^ k) l t x y h in
          put_square-inside k (empty_square k) l t w x y at.i at.j (IsSquare-empty k) at.ex at.ey at.hi at.hj
          ∙ cell_in-empty k at.i at.j
          ∙ sym (clear x y h)
      | inr out ↦ put_square-outside k (empty_square k) l t w x y (IsSquare-empty k) out
    ])

-- the square of a world at a place, by its quadrants
pub square_at-zero : (w : World) (x y : ℤ) → square_at w 0 x y ≡ one (cell w x y)
unfolding square_at
square_at-zero w x y = refl

pub square_at-suc : (w : World) (k : ℕ) (x y : ℤ) → square_at w (suc k) x y ≡ four (square_at w k x y) (square_at w k (x +ℤ pos (2 ^ k)) y) (square_at w k x (y +ℤ pos (2 ^ k))) (square_at w k (x +ℤ pos (2 ^ k)) (y +ℤ pos (2 ^ k)))
unfolding square_at
square_at-suc w k x y = refl

-- a coordinate behind the half of a side
behind : (x : ℤ) (h i : ℕ) → h ≤ i → (x +ℤ pos h) +ℤ pos (i - h) ≡ x +ℤ pos i
behind x h i le = omega (arith, ints)

pub at_origin : (x : ℤ) (i : ℕ) → i < 1 → x ≡ x +ℤ pos i
at_origin x i h = let z : i ≡ 0 = omega arith in omega (arith, ints)

-- it has the world's cells
pub square_at-cells : (w : World) (k : ℕ) (x y : ℤ) (i j : ℕ) → i < 2 ^ k → j < 2 ^ k → cell_in k (square_at w k x y) i j ≡ cell w (x +ℤ pos i) (y +ℤ pos j)
square_at-cells w zero x y i j hi hj = grind (arith, square_at-zero, cell_in-one, at_origin)
square_at-cells w (suc k) x y i j hi hj =
    let h = 2 ^ k in
    let nw = square_at w k x y in
    let ne = square_at w k (x +ℤ pos h) y in
    let sw = square_at w k x (y +ℤ pos h) in
    let se = square_at w k (x +ℤ pos h) (y +ℤ pos h) in
    ap (λ (t : Square). cell_in (suc k) t i j) (square_at-suc w k x y)
    ∙ elim (cases_lt i (2 ^ k)) [
      | inl near ↦ elim (cases_lt j (2 ^ k)) [
        | inl above ↦ cell_in-nw k nw ne sw se i j near above ∙ square_at-cells w k x y i j near above
        | inr below ↦ cell_in-sw k nw ne sw se i j near below ∙ square_at-cells w k x (y +ℤ pos h) i (j - 2 ^ k) near (omega arith) ∙ ap (cell w (x +ℤ pos i)) (behind y h j below)
      ]
      | inr far ↦ elim (cases_lt j (2 ^ k)) [
        | inl above ↦ cell_in-ne k nw ne sw se i j far above ∙ square_at-cells w k (x +ℤ pos h) y (i - 2 ^ k) j (omega arith) above ∙ ap (λ z. cell w z (y +ℤ pos j)) (behind x h i far)
        | inr below ↦ cell_in-se k nw ne sw se i j far below ∙ square_at-cells w k (x +ℤ pos h) (y +ℤ pos h) (i - 2 ^ k) (j - 2 ^ k) (omega arith) (omega arith) ∙ ap₂ (cell w) (behind x h i far) (behind y h j below)
      ]
    ]

-- the square of a world of states is a square
pub square_at-IsSquare : (w : World) (k : ℕ) (x y : ℤ) → AllBelow 256 w → IsSquare k (square_at w k x y)
unfolding square_at
square_at-IsSquare w zero x y small = IsSquare-one (cell w x y) (small x y)
square_at-IsSquare w (suc k) x y small =
    let part = λ (x y : ℤ). square_at-IsSquare w k x y small in
    IsSquare-parts k _ _ _ _ (part _ _) (part _ _) (part _ _) (part _ _)

-- the states of the world of one square
pub put_square-below : (k : ℕ) (s : Square) (l t : ℤ) → IsSquare k s → AllBelow 256 (put_square k s l t blank)
put_square-below k s l t is x y =
    elim (in_or_out (2 ^ k) l t x y) [
      | inl h ↦
          let at = offsets (2 ^ k) l t x y h in
          let e = put_square-inside k s l t blank x y at.i at.j is at.ex at.ey at.hi at.hj in
          omega (arith, e, cell_in-below k s at.i at.j is)
      | inr out ↦ omega (arith, put_square-outside k s l t blank x y is out, cell-blank x y)
    ]

-- squares that stand for one world are one
pub same_put : (k : ℕ) (s r : Square) (l t : ℤ) → IsSquare k s → IsSquare k r →
    put_square k s l t blank ≡ put_square k r l t blank → s ≡ r
same_put k s r l t is ir same =
    let at = λ (u : Square) (iu : IsSquare k u) (i j : ℕ) (hi : i < 2 ^ k) (hj : j < 2 ^ k).
    put_square-inside k u l t blank (l +ℤ pos i) (t +ℤ pos j) i j iu refl refl hi hj in
    same_square k s r is ir (λ i j hi hj.
    sym (at s is i j hi hj) ∙ ap (λ w. cell w (l +ℤ pos i) (t +ℤ pos j)) same ∙ at r ir i j hi hj)
