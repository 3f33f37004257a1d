-- Rows that are added one behind another.
use Rattle.multistate_macrocell.proofs.Names.{Adds, AreRows, AreRows-push, IsNumber, IsNumber-from, IsNumber-grown, IsNumber-state, IsRow, List, Square, SquareRow, [], ap, append-nil, arith, four, get_or, get_or_push, kid, length}
use Rattle.multistate_macrocell.proofs.Names.{length_push, lit<, no_row, one, refl, root_level-some, row_at, row_of, square_in, square_in-grown, square_in-row, square_in-state, square_of_row, subst, suc, sym, zero, ℕ, ◌++◌, ◌-◌, ◌<◌, ◌∙◌}
use Rattle.multistate_macrocell.proofs.Names.{◌∷◌, ◌≡◌, ◌≤◌}
use Rattle.plane_core.proofs.Shared.Numbering.{Grows, Grows-more, Grows-then}

-- rows that were added to have grown
pub adds-grows : (old new : List SquareRow) (k n : ℕ) (t : Square) → Adds old new k n t → Grows old new
adds-grows old new k n t adds = record { more = adds.more; is = adds.grown }

-- a cell takes no row
pub adds-cell : (rows : List SquareRow) (k n : ℕ) (t : Square) → AreRows rows → k ≡ 0 → n < 256 → t ≡ one n → Adds rows rows k n t
adds-cell rows zero n t valid e small is = record {
  more = [];
  grown = sym (append-nil rows);
  valid = valid;
  number = IsNumber-state rows n small;
  names = square_in-state rows n ∙ sym is;
  last = λ h. absurd (omega (arith, h));
  root = λ h. absurd (omega (arith, h));
}
adds-cell rows (suc k) n t valid e small is = absurd (omega (arith, e))

-- the kids of a row name the same squares with the row behind them
kid_stays : (rows : List SquareRow) (row : SquareRow) (q : ℕ) → AreRows rows → IsRow rows row → q < 4 → square_in (rows ++ row ∷ []) (row.level - 1) (kid row q) ≡ square_in rows (row.level - 1) (kid row q)
kid_stays rows row q valid is h = square_in-grown rows (rows ++ row ∷ []) (row.level - 1) (kid row q) (Grows-more rows (row ∷ [])) valid (is.kids q h)

-- the square of the last row
pushed_square : (rows : List SquareRow) (row : SquareRow) → AreRows rows → IsRow rows row → square_in (rows ++ row ∷ []) (suc (row.level - 1)) (suc (length rows)) ≡ square_of_row rows row
pushed_square rows row valid is =
    let all = rows ++ row ∷ [] in
    let k = row.level - 1 in
    let stays = λ (q : ℕ) (h : q < 4). kid_stays rows row q valid is h in
    cc (square_in-row all k (length rows), get_or_push rows row no_row (length rows) refl, stays 0 (lit< tt), stays 1 (lit< tt), stays 2 (lit< tt), stays 3 (lit< tt))

-- one row behind others
pub adds-row : (rows new : List SquareRow) (row : SquareRow) (n : ℕ) → AreRows rows → IsRow rows row → new ≡ rows ++ row ∷ [] → n ≡ length new → Adds rows new row.level n (square_of_row rows row)
adds-row rows new row n valid is grown count =
    let all = rows ++ row ∷ [] in
    let low : 1 ≤ row.level = is.low in
    let level : suc (row.level - 1) ≡ row.level = omega arith in
    let long : length all ≡ suc (length rows) = omega (arith, length_push rows row) in
    let at : row_at all (length all) ≡ row = let less : length all - 1 ≡ length rows = omega arith in ap (λ m. get_or all m no_row) less ∙ get_or_push rows row no_row (length rows) refl in
    let named : IsNumber all (suc (row.level - 1)) (length all) = IsNumber-from all (row.level - 1) (length all) (λ live. (omega arith, ap (λ (r : SquareRow). r.level) at ∙ sym level)) in
    let square : square_in all (suc (row.level - 1)) (length all) ≡ square_of_row rows row = ap (square_in all (suc (row.level - 1))) long ∙ pushed_square rows row valid is in
    let here : Adds rows all row.level (length all) (square_of_row rows row) = record {
      more = row ∷ [];
      grown = refl;
      valid = AreRows-push rows row valid is;
      number = subst (λ k. IsNumber all k (length all)) level named;
      names = ap (λ k. square_in all k (length all)) (sym level) ∙ square;
      last = λ h. refl;
      root = λ h. root_level-some all (omega arith) ∙ ap (λ (r : SquareRow). r.level) at;
    } in
    rw (count, grown) here

-- four squares of a level, added one behind another
pub record AddsFour (r0 r1 r2 r3 r4 : List SquareRow) (k a b c d : ℕ) (nw ne sw se : Square) : Type 0 where
  pub first : Adds r0 r1 k a nw
  pub second : Adds r1 r2 k b ne
  pub third : Adds r2 r3 k c sw
  pub fourth : Adds r3 r4 k d se

module _ (r0 r1 r2 r3 r4 : List SquareRow) (k a b c d : ℕ) (nw ne sw se : Square) (adds : AddsFour r0 r1 r2 r3 r4 k a b c d nw ne sw se) where
  g1 : Grows r0 r1
  g1 = adds-grows r0 r1 k a nw adds.first

  g4 : Grows r3 r4
  g4 = adds-grows r3 r4 k d se adds.fourth

  g3 : Grows r2 r4
  g3 = Grows-then r2 r3 r4 (adds-grows r2 r3 k c sw adds.third) g4

  g2 : Grows r1 r4
  g2 = Grows-then r1 r2 r4 (adds-grows r1 r2 k b ne adds.second) g3

  number_kid : (level q : ℕ) → level ≡ suc k → q < 4 → IsNumber r4 k (kid (row_of level a b c d) q)
  number_kid level zero e h = IsNumber-grown r1 r4 k a g2 adds.first.number
  number_kid level (suc zero) e h = IsNumber-grown r2 r4 k b g3 adds.second.number
  number_kid level (suc (suc zero)) e h = IsNumber-grown r3 r4 k c g4 adds.third.number
  number_kid level (suc (suc (suc zero))) e h = adds.fourth.number
  number_kid level (suc (suc (suc (suc q)))) e h = absurd (omega (arith, h))

  -- the row of the four may stand behind them
  pub four-row : (level : ℕ) → level ≡ suc k → level ≤ 62 → IsRow r4 (row_of level a b c d)
  four-row level e high =
      record { low = omega arith; high = high; kids = λ q h. let number = number_kid level q e h in grind (arith, e) }

  -- and stands for the square of the four
  pub four-square : (level : ℕ) → level ≡ suc k → square_of_row r4 (row_of level a b c d) ≡ four nw ne sw se
  four-square level e =
      let less : level - 1 ≡ k = omega arith in
      let is_nw = square_in-grown r1 r4 k a g2 adds.first.valid adds.first.number ∙ adds.first.names in
      let is_ne = square_in-grown r2 r4 k b g3 adds.second.valid adds.second.number ∙ adds.second.names in
      let is_sw = square_in-grown r3 r4 k c g4 adds.third.valid adds.third.number ∙ adds.third.names in
      cc

  -- so that the four and their row add the square of the four
  pub adds-four : (level n : ℕ) (r5 : List SquareRow) (t : Square) → level ≡ suc k → t ≡ four nw ne sw se → Adds r4 r5 level n (square_of_row r4 (row_of level a b c d)) → Adds r0 r5 level n t
  adds-four level n r5 t e is row =
      let g = Grows-then r0 r1 r5 g1 (Grows-then r1 r4 r5 g2 (adds-grows r4 r5 level n (square_of_row r4 (row_of level a b c d)) row)) in
      record { more = g.more; grown = g.is; valid = row.valid; number = row.number; names = row.names ∙ four-square level e ∙ sym is; last = row.last; root = row.root }
