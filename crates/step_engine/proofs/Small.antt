-- The small squares with which a table may begin.
use Rattle.step_engine.proofs.Names.{List, ap, arith, first_number, get_or, inl, inr, kid_at, kids_at, subst, sym, ℕ, ◌+◌, ◌<◌, ◌∙◌, ◌≡◌, []}
use Rattle.std.proofs.lemmas.Bool.{cases_lt}
use Rattle.std.specs.Prelude.{◌-◌, ◌/◌, ◌%◌}
use Rattle.square_table.specs.Squares.{IsNumber}
use Rattle.hash_engine.specs.Small.{BeginsWithSmall, four_kids, small_count, two_kids}
use Rattle.step_engine.specs.Kept.{AreSquares}

-- the quadrants of the square at a place
kids-at : (rows : List (List ℕ)) (i : ℕ) (kids : List ℕ) → get_or rows i [] ≡ kids → kids_at rows (first_number + i) ≡ kids
kids-at rows i kids is = let place : first_number + i - first_number ≡ i = omega arith in ap (λ p. get_or rows p []) place ∙ is

module _ (rows : List (List ℕ)) (begins : BeginsWithSmall rows) where
  is_two : (i : ℕ) → i < 16 → IsNumber rows 1 (first_number + i)
  unfolding IsNumber
  is_two i low =
      let kids = kids-at rows i (two_kids i) (begins.twos.each i low) in
      let at : (q : ℕ) → kid_at rows (first_number + i) q ≡ get_or (two_kids i) q 0 = λ q. ap (λ ks. get_or ks q 0) kids in
      (omega arith, omega (arith, low, begins.twos.there), omega (arith, at 0), omega (arith, at 1), omega (arith, at 2), omega (arith, at 3))

  is_four : (i : ℕ) → i < 65536 → IsNumber rows 2 (first_number + (16 + i))
  unfolding IsNumber
  is_four i low =
      let kids = kids-at rows (16 + i) (four_kids i) (begins.each i low) in
      let at : (q : ℕ) → kid_at rows (first_number + (16 + i)) q ≡ get_or (four_kids i) q 0 = λ q. ap (λ ks. get_or ks q 0) kids in
      let two : (q j : ℕ) → j < 16 → get_or (four_kids i) q 0 ≡ first_number + j → IsNumber rows 1 (kid_at rows (first_number + (16 + i)) q) =
      λ q j few is. subst (IsNumber rows 1) (sym (at q ∙ is)) (is_two j few) in (
        omega arith,
        omega (arith, low, begins.there),
        two 0 (i % 16) (omega arith) (omega arith),
        two 1 (i / 16 % 16) (omega arith) (omega arith),
        two 2 (i / 256 % 16) (omega arith) (omega arith),
        two 3 (i / 4096 % 16) (omega arith) (omega arith),
      )

  -- so they are squares
  pub small_squares : AreSquares small_count rows
  small_squares = record {
    there = begins.there;
    each = λ i below. elim (cases_lt i 16) [
      | inl low ↦ (0, is_two i low)
      | inr high ↦
          let place : 16 + (i - 16) ≡ i = omega (arith, high) in
          (1, subst (λ j. IsNumber rows 2 (first_number + j)) place (is_four (i - 16) (omega (arith, below, high))))
    ];
  }
