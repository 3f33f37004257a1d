-- The rows of a plane are of squares that its root is made of.
use Rattle.square_table.proofs.Names.{AreCanonical, AreRows, AreRows-none, Bool, EachHas, EachHas-none, Grows-more, List, Square, SquareRow, [], ap, arith, cases_lt, completed, false, four, get_or, get_or_push, inl, inr, length}
use Rattle.square_table.proofs.Names.{length_push, list_any, listed-number, no_row, not_found, number_square-sound, numbered, one, position_or_len, quadrants-sound, refl, root-IsSquare, root_of, rooted, row_kept, row_of, row_square}
use Rattle.square_table.proofs.Names.{same_row, square_in-grown, subst, suc, sym, true, written, zero, ℕ, ◌++◌, ◌+◌, ◌-◌, ◌<◌, ◌∷◌, ◌≡◌, ◌≤◌}
use Rattle.worlds.specs.Square.{IsSquare}
use Rattle.plane_core.specs.Rows.{IsNumber, square_in, number_row, number_square, root_level}
use Rattle.plane_core.proofs.Shared.Numbering.{Grows}
use Rattle.square_table.specs.Made.{HoldsWithin}

-- a row has the number behind its place
row_number : (rows : List SquareRow) (i : ℕ) → AreRows rows → i < length rows → IsNumber rows (get_or rows i no_row).level (suc i)
row_number rows i valid h =
    let less : suc i - 1 ≡ i = omega arith in
    listed-number rows (get_or rows i no_row).level (suc i) (valid i h).low (omega (arith, h)) (ap (λ m. (get_or rows m no_row).level) less)

pub row_square-kept : (old new : List SquareRow) (i : ℕ) → Grows old new → AreRows old → i < length old → row_square new i ≡ row_square old i
row_square-kept old new i grows valid h = grind (arith, row_kept, square_in-grown, row_number)

module _ (P : Square → Type 0) where
  -- P holds of the square of each row
  abbrev Each : List SquareRow → Type 0
  Each rows = (i : ℕ) → i < length rows → P (row_square rows i)

  -- a row more, of a square of which P holds
  each_numbered : (x y : Bool) (row : SquareRow) (rows : List SquareRow) (t : Square) (k : ℕ) → AreRows rows → row.level ≡ suc k → list_any (same_row row) rows ≡ y → Each rows → P t
      → square_in (numbered x y row rows (position_or_len (same_row row) rows + 1)).rows (suc k) (numbered x y row rows (position_or_len (same_row row) rows + 1)).number ≡ t
      → Each (numbered x y row rows (position_or_len (same_row row) rows + 1)).rows
  each_numbered true y row rows t k valid level there old new is i h = old i h
  each_numbered false true row rows t k valid level there old new is i h = old i h
  each_numbered false false row rows t k valid level there old new is i h =
      let more = rows ++ row ∷ [] in
      elim (cases_lt i (length rows)) [
        | inl before ↦ subst P (sym (row_square-kept rows more i (Grows-more rows (row ∷ [])) valid before)) (old i before)
        | inr after ↦ subst P (sym (grind (arith, get_or_push rows row no_row i, length_push, not_found (same_row row) rows there))) new
      ]

  each_row : (row : SquareRow) (rows : List SquareRow) (t : Square) (k : ℕ) → AreRows rows → row.level ≡ suc k → Each rows → P t → square_in (number_row row rows).rows (suc k) (number_row row rows).number ≡ t
      → Each (number_row row rows).rows
  unfolding number_row
  each_row row rows t k valid level old new is = each_numbered _ _ row rows t k valid level refl old new is

  each_walk : (k : ℕ) (t : Square) (rows : List SquareRow) → AreRows rows → EachHas rows → IsSquare k t → k ≤ 62 → HoldsWithin P t → Each rows → Each (number_square k t rows).rows
  unfolding number_square IsSquare HoldsWithin
  each_walk zero (one s) rows valid each is high within old = old
  each_walk (suc k) (one s) rows valid each is high within old = absurd is
  each_walk zero (four nw ne sw se) rows valid each is high within old = absurd is
  each_walk (suc k) (four nw ne sw se) rows valid each is high within old =
      let less : k ≤ 62 = omega (arith, high) in
      let walks = quadrants-sound k nw ne sw se rows (λ t rows valid each is. number_square-sound k t rows valid each is less) valid each is in
      let a = number_square k nw rows in
      let b = number_square k ne a.rows in
      let c = number_square k sw b.rows in
      let d = number_square k se c.rows in
      let la : Each a.rows = each_walk k nw rows valid each is.0 less within.1 old in
      let lb : Each b.rows = each_walk k ne a.rows walks.nw_is.valid walks.nw_is.each is.1 less within.2 la in
      let lc : Each c.rows = each_walk k sw b.rows walks.ne_is.valid walks.ne_is.each is.2 less within.3 lb in
      let ld : Each d.rows = each_walk k se c.rows walks.sw_is.valid walks.sw_is.each is.3 less within.4 lc in
      each_row (row_of (suc k) a.number b.number c.number d.number) d.rows (four nw ne sw se) k walks.se_is.valid refl ld within.0 (number_square-sound (suc k) (four nw ne sw se) rows valid each is high).square

  -- the row of the empty square, where it is the root
  each_written : (rows walked : List SquareRow) → HoldsWithin P (root_of rows) → Each walked → written walked ≡ rows → Each rows
  unfolding root_level square_in HoldsWithin
  each_written rows (row ∷ more) within old is = subst Each is old
  each_written rows [] within old is = subst Each is (λ i h. grind (arith, (subst (λ (rs : List SquareRow). HoldsWithin P (root_of rs)) (sym is) within).0))

  pub each_square : (rows : List SquareRow) → AreCanonical rows → HoldsWithin P (root_of rows) → Each rows
  each_square rows are within =
      let walked = each_walk (root_level rows) (root_of rows) [] AreRows-none EachHas-none (root-IsSquare rows are.valid) (rooted rows are.valid).high within (λ i h. absurd (omega (arith, h))) in
      each_written rows (completed (root_level rows) (root_of rows)) within walked are.walked
