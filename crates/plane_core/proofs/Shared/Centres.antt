-- The root in the middle of a root, by its rows.
use Rattle.plane_core.proofs.Names.{AreFilled, AreRows, AreWalked, Bool, Fits, IsCentre, IsCorner, IsLeastLevel, IsNumber, IsSquare, List, NoneEmpty, Square, SquareRow, World, [], and_from, and_parts, ap, arith, cases_eq, cases_lt, centred}
use Rattle.plane_core.proofs.Names.{cond, cond-false, cond-true, cornered, eq-eqb, eqb-true, false, four, get_or_push, inl, inr, ints, is_alone, is_passed, kid, length, length_push, ne_eqb, nil_from_length, one, or_cases, or_left, or_right}
use Rattle.plane_core.proofs.Names.{pow_mono, refl, root_level, row_at, square_in, subst, suc, sym, true, world_of_rows, zero, ℕ, ◌++◌, ◌-◌, ◌<◌, ◌==◌, ◌^◌, ◌∙◌, ◌∷◌, ◌≡◌, ◌≤◌}
use Rattle.worlds.specs.Square.{empty_square}
use Rattle.plane_core.proofs.Shared.Numbering.{Grows-more, Has-empty, Has-one}
use Rattle.plane_core.proofs.Shared.Sound.{square_in-number, row_of, IsNumber-level, IsNumber-before, IsNumber-last, square_in-none, square_in-state, square_in-row, square_in-grown, AreRows-push, number-kid}
use Rattle.plane_core.proofs.Shared.Roots.{rooted, root-IsSquare, root-Fits, root_level-none, root_level-some, root-side, square_in-IsSquare}
use Rattle.plane_core.proofs.Shared.Cells.{nw_of, ne_of, sw_of, se_of}
use Rattle.plane_core.proofs.Shared.Tidy.{world-put}
use Rattle.plane_core.proofs.Shared.Centring.{root_world, centred-world, fits-corners, HasCorners}

-- walked rows have no row of an empty square
pub walked-filled : (rows : List SquareRow) → AreWalked rows → AreFilled rows
walked-filled rows w = grind (arith, Has-one, Has-empty)

state_in_one : Square → ℕ
state_in_one (one s) = s
state_in_one (four a b c d) = 0

state_empty : (n : ℕ) → one n ≡ empty_square 0 → n ≡ 0
unfolding empty_square state_in_one
state_empty n e = ap state_in_one e

passed_square : (rows : List SquareRow) (k corner q inner n : ℕ) → (corner ≡ q → inner ≡ n) → is_passed corner q n ≡ true → square_in rows k n ≡ cond (corner == q) (square_in rows k inner) (empty_square k)
passed_square rows k corner q inner n same h =
    grind (arith, cases_eq, cond-true, eq-eqb, or_cases, eqb-true, square_in-none, cond-false, ne_eqb)

-- where the other kids are 0 the square has its live cells at the corner
pub corner-alone : (rows : List SquareRow) (k n corner : ℕ) → AreRows rows → 0 < k → 0 < n → IsNumber rows k n → corner < 4 → is_alone corner (row_at rows n).kids ≡ true
    → IsCorner rows (k - 1) n corner (kid (row_at rows n) corner)
corner-alone rows k n corner valid hk hn h hc alone =
    grind (arith, and_parts, passed_square, square_in-number, number-kid)

-- an empty square has an empty one at its corner
pub corner-none : (rows : List SquareRow) (k corner : ℕ) → IsNumber rows k 0 → IsCorner rows k 0 corner 0
unfolding empty_square
corner-none rows k corner h =
    let e = empty_square k in
    let choose = λ (q : ℕ). by (corner == q) e in
    record {
      names = h;
      square =
          square_in-none rows (suc k)
          ∙ (let a = choose 0 in let b = choose 1 in let c = choose 2 in let d = choose 3 in λ i. four (a i) (b i) (c i) (d i))
          ∙ ap (cornered k corner) (sym (square_in-none rows k));
    }
  where
    by : (b : Bool) (s : Square) → s ≡ cond b s s
    by true s = refl
    by false s = refl

passed_from : (rows : List SquareRow) (k corner q n : ℕ) (s : Square) → NoneEmpty rows → IsNumber rows k n → square_in rows k n ≡ cond (corner == q) s (empty_square k) → is_passed corner q n ≡ true
passed_from rows k corner q n s none h e =
    grind (arith, cases_eq, or_left, eq-eqb, or_right, cond-false, ne_eqb)

-- and only then
pub corner-only : (rows : List SquareRow) (k n corner : ℕ) → AreRows rows → NoneEmpty rows → 0 < k → 0 < n → IsNumber rows k n → is_alone corner (row_at rows n).kids ≡ false
    → (s : Square) → square_in rows (suc (k - 1)) n ≡ cornered (k - 1) corner s → ⊥
unfolding nw_of ne_of sw_of se_of
corner-only rows k n corner valid none hk hn h other s e =
    grind (arith, number-kid, square_in-number, passed_from, and_from)

-- a root of a level above 1 is a row
pub rows-some : (rows : List SquareRow) → (root_level rows ≡ 1 → ⊥) → 0 < length rows
rows-some rows high = grind (arith, cases_lt, nil_from_length, root_level-none)

-- what fits a root fits a larger one
fits_larger : (w : World) (j k : ℕ) → 1 ≤ j → j ≤ k → Fits j w → Fits k w
fits_larger w j k low le fits x y live =
    let h = fits x y live in
    let left = h.left in let right = h.right in let top = h.top in let bottom = h.bottom in
    let half : 2 ^ (j - 1) ≤ 2 ^ (k - 1) = pow_mono (let less : j - 1 ≤ k - 1 = omega arith in less) in
    let side_j = root-side j low in
    let side_k = root-side k (omega arith) in
    record { left = omega (arith, ints); right = omega (arith, ints); top = omega (arith, ints); bottom = omega (arith, ints) }

-- a root of level 1 is the least
pub least-one : (rows : List SquareRow) → AreRows rows → root_level rows ≡ 1 → IsLeastLevel (root_level rows) (world_of_rows rows)
least-one rows valid e = record { holds = root-Fits rows valid; least = λ j low fits. subst (λ k. k ≤ j) (sym e) low }

-- the quadrant of the root that this kid names has no corner that could be the middle's
abbrev pub NoCorner : List SquareRow → ℕ → ℕ → ℕ → Type 0
NoCorner rows k q corner = (s : Square) → square_in rows (suc k) (kid (row_at rows (length rows)) q) ≡ cornered k corner s → ⊥

not_centred : (rows : List SquareRow) (k : ℕ) → AreRows rows → root_level rows ≡ suc (suc k) → 0 < length rows
    → (HasCorners k (square_in rows (suc k) (kid (row_at rows (length rows)) 0)) (square_in rows (suc k) (kid (row_at rows (length rows)) 1))
    (square_in rows (suc k) (kid (row_at rows (length rows)) 2)) (square_in rows (suc k) (kid (row_at rows (length rows)) 3)) → ⊥)
    → IsLeastLevel (root_level rows) (world_of_rows rows)
not_centred rows k valid ek some none =
    let root = row_at rows (length rows) in
    let nw = square_in rows (suc k) (kid root 0) in let ne = square_in rows (suc k) (kid root 1) in let sw = square_in rows (suc k) (kid root 2) in let se = square_in rows (suc k) (kid root 3) in
    let square : square_in rows (suc (suc k)) (length rows) ≡ four nw ne sw se = square_in-number rows (suc k) (length rows) some in
    let is : IsSquare (suc (suc k)) (four nw ne sw se) = subst (IsSquare (suc (suc k))) square (subst (λ m. IsSquare m (square_in rows m (length rows))) ek (root-IsSquare rows valid)) in
    let world : world_of_rows rows ≡ root_world (suc (suc k)) (four nw ne sw se) = world-put rows (suc (suc k)) (four nw ne sw se) ek square in
    record {
      holds = root-Fits rows valid;
      least = λ j low fits. elim (cases_lt j (root_level rows)) [
        | inl less ↦ absurd (none (fits-corners k nw ne sw se is (subst (Fits (suc k)) world (fits_larger (world_of_rows rows) j (suc k) low (omega arith) fits))))
        | inr ge ↦ ge
      ];
    }

-- the level of a root above level 1
two_below : (k : ℕ) → 1 ≤ k → (k ≡ 1 → ⊥) → k ≡ suc (suc ((k - 1) - 1))
two_below k low high = omega arith

-- where one quadrant has live cells elsewhere the root is the least
pub least-nw : (rows : List SquareRow) → AreRows rows → (root_level rows ≡ 1 → ⊥) → NoCorner rows ((root_level rows - 1) - 1) 0 3 → IsLeastLevel (root_level rows) (world_of_rows rows)
least-nw rows valid high none = not_centred rows ((root_level rows - 1) - 1) valid (two_below (root_level rows) (rooted rows valid).low high) (rows-some rows high) (λ c. none c.a c.nw_is)

pub least-ne : (rows : List SquareRow) → AreRows rows → (root_level rows ≡ 1 → ⊥) → NoCorner rows ((root_level rows - 1) - 1) 1 2 → IsLeastLevel (root_level rows) (world_of_rows rows)
least-ne rows valid high none = not_centred rows ((root_level rows - 1) - 1) valid (two_below (root_level rows) (rooted rows valid).low high) (rows-some rows high) (λ c. none c.b c.ne_is)

pub least-sw : (rows : List SquareRow) → AreRows rows → (root_level rows ≡ 1 → ⊥) → NoCorner rows ((root_level rows - 1) - 1) 2 1 → IsLeastLevel (root_level rows) (world_of_rows rows)
least-sw rows valid high none = not_centred rows ((root_level rows - 1) - 1) valid (two_below (root_level rows) (rooted rows valid).low high) (rows-some rows high) (λ c. none c.c c.sw_is)

pub least-se : (rows : List SquareRow) → AreRows rows → (root_level rows ≡ 1 → ⊥) → NoCorner rows ((root_level rows - 1) - 1) 3 0 → IsLeastLevel (root_level rows) (world_of_rows rows)
least-se rows valid high none = not_centred rows ((root_level rows - 1) - 1) valid (two_below (root_level rows) (rooted rows valid).low high) (rows-some rows high) (λ c. none c.d c.se_is)

-- a kid of the root is a number
pub root-kid : (rows : List SquareRow) (q : ℕ) → AreRows rows → (root_level rows ≡ 1 → ⊥) → q < 4 → IsNumber rows (root_level rows - 1) (kid (row_at rows (length rows)) q)
root-kid rows q valid high hq = number-kid rows (root_level rows) (length rows) q valid (rooted rows valid).low (rows-some rows high) (rooted rows valid).number hq

-- four corners that meet in the middle of the root
pub record HasMiddle (rows : List SquareRow) (k a b c d : ℕ) : Type 0 where
  pub nw : IsCorner rows k (kid (row_at rows (length rows)) 0) 3 a
  pub ne : IsCorner rows k (kid (row_at rows (length rows)) 1) 2 b
  pub sw : IsCorner rows k (kid (row_at rows (length rows)) 2) 1 c
  pub se : IsCorner rows k (kid (row_at rows (length rows)) 3) 0 d

centred-empty : (k : ℕ) → centred k (empty_square k) (empty_square k) (empty_square k) (empty_square k) ≡ empty_square (suc (suc k))
unfolding empty_square
centred-empty k = refl

module _ (rows : List SquareRow) (k a b c d : ℕ) (valid : AreRows rows) (none : NoneEmpty rows) (ek : root_level rows ≡ suc (suc k)) (some : 0 < length rows) (middle : HasMiddle rows k a b c d) where
  root-centred : square_in rows (suc (suc k)) (length rows) ≡ centred k (square_in rows k a) (square_in rows k b) (square_in rows k c) (square_in rows k d)
  root-centred = grind (arith, square_in-number)

  middle_valid : AreRows (rows ++ row_of (suc k) a b c d ∷ [])
  middle_valid = grind (arith, AreRows-push, rooted)

  middle_level : root_level (rows ++ row_of (suc k) a b c d ∷ []) ≡ suc k
  middle_level = grind (arith, length_push, root_level-some, get_or_push)

  middle_square : square_in (rows ++ row_of (suc k) a b c d ∷ []) (suc k) (suc (length rows)) ≡ four (square_in rows k a) (square_in rows k b) (square_in rows k c) (square_in rows k d)
  middle_square = grind (arith, Grows-more, square_in-grown, square_in-row, get_or_push)

  middle_world : world_of_rows (rows ++ row_of (suc k) a b c d ∷ []) ≡ world_of_rows rows
  middle_world =
      grind (arith, length_push, world-put, middle_level, middle_square, centred-world, square_in-IsSquare, root-centred)

  root_number : IsNumber rows (suc (suc k)) (length rows)
  root_number = subst (λ m. IsNumber rows m (length rows)) ek (rooted rows valid).number

  not_empty : four (square_in rows k a) (square_in rows k b) (square_in rows k c) (square_in rows k d) ≡ empty_square (suc k) → ⊥
  unfolding nw_of ne_of sw_of se_of empty_square
  not_empty e = grind (arith, root-centred, centred-empty, root_number)

  none_before : (j i : ℕ) → i < length rows → IsNumber (rows ++ row_of (suc k) a b c d ∷ []) (suc j) (suc i) → square_in (rows ++ row_of (suc k) a b c d ∷ []) (suc j) (suc i) ≡ empty_square (suc j) → suc i ≡ 0
  none_before j i lt h e = grind (arith, Grows-more, IsNumber-before, square_in-grown)

  none_last : (j i : ℕ) → i ≡ length rows → IsNumber (rows ++ row_of (suc k) a b c d ∷ []) (suc j) (suc i) → square_in (rows ++ row_of (suc k) a b c d ∷ []) (suc j) (suc i) ≡ empty_square (suc j) → suc i ≡ 0
  none_last j i last h e = grind (arith, IsNumber-last, not_empty, middle_square)

  middle_none : NoneEmpty (rows ++ row_of (suc k) a b c d ∷ [])
  middle_none zero n h e = state_empty n (sym (square_in-state (rows ++ row_of (suc k) a b c d ∷ []) n) ∙ e)
  middle_none (suc j) zero h e = refl
  middle_none (suc j) (suc i) h e =
      grind (arith, IsNumber-level, cases_lt, none_before, none_last, length_push)

  -- the root in the middle is one of the same world
  is_centre : IsCentre rows (row_of (suc k) a b c d)
  is_centre = record { filled = record { valid = middle_valid; none_empty = middle_none }; level = sym ek; root = middle_level; world = middle_world }

-- the row of the square in the middle of a root
pub centre-is : (rows : List SquareRow) (k a b c d : ℕ) → AreRows rows → NoneEmpty rows → (root_level rows ≡ 1 → ⊥) → k ≡ root_level rows - 1 → HasMiddle rows (k - 1) a b c d → IsCentre rows (row_of k a b c d)
centre-is rows zero a b c d valid none high ek middle = absurd (let root = rooted rows valid in let low = root.low in let two = two_below (root_level rows) low high in omega arith)
centre-is rows (suc k) a b c d valid none high ek middle =
    let less : suc k - 1 ≡ k = omega arith in
    let level : root_level rows ≡ suc (suc k) = omega arith in
    is_centre rows k a b c d valid none level (rows-some rows high) (subst (λ j. HasMiddle rows j a b c d) less middle)
