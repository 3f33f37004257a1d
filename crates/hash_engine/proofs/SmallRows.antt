-- A table that begins with the small squares.
use Rattle.hash_engine.proofs.Names.{Grows, GrowsBy, IsSquareOf, List, Table, [], ap, arith, first_number, four, get_or, kids_at, length, one, refl, sym, ℕ, ◌++◌, ◌+◌, ◌-◌, ◌<◌, ◌∙◌, ◌∷◌, ◌≡◌, ◌≤◌}
use Rattle.std.proofs.Common.{inl, inr, ◌%◌, ◌/◌}
use Rattle.square_table.specs.Squares.{IsNumber, kid_at, square_in, square_of}
use Rattle.bit_blocks.specs.Numbers.{two_of, block_of, eight_of, sixteen_of}
use Rattle.std.proofs.lemmas.List.{get_or_append_left, length-append, length_push}
use Rattle.std.proofs.lemmas.Bool.{cases_lt}
use Rattle.square_table.specs.Squares.{with_row}
use Rattle.square_table.proofs.Shared.Tables.{kept_row, last_row}
use Rattle.hash_engine.specs.Small.{BeginsWithSmall, HasFours, two_kids, four_kids}

-- places among them are told by their quadrants
two_kids-one : (i j : ℕ) → i < 16 → j < 16 → two_kids i ≡ two_kids j → i ≡ j
two_kids-one i j hi hj same =
    let at : (q : ℕ) → get_or (two_kids i) q 0 ≡ get_or (two_kids j) q 0 = λ q. ap (λ kids. get_or kids q 0) same in
    omega (arith, at 0, at 1, at 2, at 3, hi, hj)

four_kids-one : (i j : ℕ) → i < 65536 → j < 65536 → four_kids i ≡ four_kids j → i ≡ j
four_kids-one i j hi hj same =
    let at : (q : ℕ) → get_or (four_kids i) q 0 ≡ get_or (four_kids j) q 0 = λ q. ap (λ kids. get_or kids q 0) same in
    omega (arith, at 0, at 1, at 2, at 3, hi, hj)

two-four : (i j : ℕ) → two_kids i ≡ four_kids j → ⊥
two-four i j same =
    let at : get_or (two_kids i) 0 0 ≡ get_or (four_kids j) 0 0 = ap (λ kids. get_or kids 0 0) same in
    omega (arith, at)

-- a square that isn't there is added
added : (t u : Table) (kids : List ℕ) (n : ℕ) → GrowsBy kids t u → IsSquareOf u.rows kids n → ((i : ℕ) → i < length t.rows → get_or t.rows i [] ≡ kids → ⊥) → u ≡ with_row t kids
added t u kids n grows is lacks = elim grows [
  | inl same ↦
      let there : n - first_number < length t.rows = omega (arith, is.above, is.there, ap (λ (v : Table). length v.rows) same) in
      absurd (lacks (n - first_number) there (ap (λ (v : Table). kids_at v.rows n) (sym same) ∙ is.listed))
  | inr more ↦ more
]

-- one more row of those of 4 by 4 cells
module _ {t u : Table} {i n : ℕ} (few : i < 65536) (count : length t.rows ≡ 16 + i) (has : HasFours i t.rows) (grows : GrowsBy (four_kids i) t u)
    (is : IsSquareOf u.rows (four_kids i) n) where
  lacks : (j : ℕ) → j < length t.rows → get_or t.rows j [] ≡ four_kids i → ⊥
  lacks j there same = elim (cases_lt j 16) [
    | inl low ↦ two-four j i (sym (has.twos.each j low) ∙ same)
    | inr high ↦
        let place : 16 + (j - 16) ≡ j = omega (arith, high) in
        let early : j - 16 < i = omega (arith, high, there, count) in
        let kids : four_kids (j - 16) ≡ four_kids i = sym (has.each (j - 16) early) ∙ ap (λ p. get_or t.rows p []) place ∙ same in
        omega (arith, early, four_kids-one (j - 16) i (omega (arith, early, few)) few kids)
  ]

  rows : u.rows ≡ t.rows ++ four_kids i ∷ []
  rows = ap (λ (v : Table). v.rows) (added t u (four_kids i) n grows is lacks)

  pub one_four-count : length u.rows ≡ 16 + (i + 1)
  one_four-count = omega (arith, ap length rows, length_push t.rows (four_kids i), count)

  old : (j : ℕ) → j < length t.rows → get_or u.rows j [] ≡ get_or t.rows j []
  old j there = ap (λ all. get_or all j []) rows ∙ kept_row t.rows (four_kids i) j there

  pub one_four : HasFours (i + 1) u.rows
  one_four = record {
    twos = record { there = omega (arith, one_four-count); each = λ j low. old j (omega (arith, low, count)) ∙ has.twos.each j low };
    there = omega (arith, one_four-count);
    each = λ j below. elim (cases_lt j i) [
      | inl early ↦ old (16 + j) (omega (arith, early, count)) ∙ has.each j early
      | inr late ↦
          let here : j ≡ i = omega (arith, late, below) in
          ap (λ all. get_or all (16 + j) []) rows ∙ last_row t.rows (four_kids i) (16 + j) (ap (λ p. 16 + p) here ∙ sym count) ∙ ap four_kids (sym here)
    ];
  }

-- a table that grows begins so still
pub begins-grows : (t u : Table) → Grows t u → BeginsWithSmall t.rows → BeginsWithSmall u.rows
begins-grows t u grows begins =
    let old : (j : ℕ) → j < length t.rows → get_or u.rows j [] ≡ get_or t.rows j [] =
    λ j there. ap (λ all. get_or all j []) grows.rows ∙ get_or_append_left t.rows grows.more [] j there in
    let size : length t.rows ≤ length u.rows = omega (arith, ap length grows.rows, length-append t.rows grows.more) in
    record {
      twos = record {
        there = omega (arith, size, begins.twos.there);
        each = λ j low. old j (omega (arith, low, begins.twos.there)) ∙ begins.twos.each j low;
      };
      there = omega (arith, size, begins.there);
      each = λ j low. old (16 + j) (omega (arith, low, begins.there)) ∙ begins.each j low;
    }

-- the squares of the first rows, by their numbers
low_cells : (a b c d e f g h : ℕ) → a ≡ e → b ≡ f → c ≡ g → d ≡ h → four (one a) (one b) (one c) (one d) ≡ four (one e) (one f) (one g) (one h)
low_cells a b c d e f g h nw ne sw se i = four (one (nw i)) (one (ne i)) (one (sw i)) (one (se i))

-- bits from the fifth on don't count
two_low : (n : ℕ) → two_of (n % 16) ≡ two_of n
unfolding two_of
two_low n = low_cells _ _ _ _ _ _ _ _ (omega arith) (omega arith) (omega arith) (omega arith)

pub eight_of-list : (blocks : List ℕ) → eight_of (get_or blocks 0 0 ∷ get_or blocks 1 0 ∷ get_or blocks 2 0 ∷ get_or blocks 3 0 ∷ []) ≡ eight_of blocks
unfolding eight_of
eight_of-list blocks = refl

module _ {rows : List (List ℕ)} (begins : BeginsWithSmall rows) where
  two_kid : (j q : ℕ) → j < 16 → kid_at rows (256 + j) q ≡ get_or (two_kids j) q 0
  two_kid j q low = ap (λ kids. get_or kids q 0) (ap (λ p. get_or rows p []) (omega arith) ∙ begins.twos.each j low)

  four_kid : (j q : ℕ) → j < 65536 → kid_at rows (272 + j) q ≡ get_or (four_kids j) q 0
  four_kid j q low = ap (λ kids. get_or kids q 0) (ap (λ p. get_or rows p []) (omega arith) ∙ begins.each j low)

  two_number : (j : ℕ) → j < 16 → IsNumber rows 1 (256 + j)
  unfolding IsNumber
  two_number j low =
      let kid : (q d : ℕ) → d < 2 → get_or (two_kids j) q 0 ≡ d → kid_at rows (256 + j) q < 256 = λ q d few is. omega (arith, two_kid j q low, is, few) in (
        omega arith,
        omega (arith, begins.twos.there, low),
        kid 0 (j % 2) (omega arith) refl,
        kid 1 (j / 2 % 2) (omega arith) refl,
        kid 2 (j / 4 % 2) (omega arith) refl,
        kid 3 (j / 8 % 2) (omega arith) refl,
      )

  pub two_square : (j : ℕ) → j < 16 → square_in rows 1 (256 + j) ≡ two_of j
  unfolding square_in two_of
  two_square j low = low_cells _ _ _ _ _ _ _ _ (two_kid j 0 low) (two_kid j 1 low) (two_kid j 2 low) (two_kid j 3 low)

  pub four_number : (j : ℕ) → j < 65536 → IsNumber rows 2 (272 + j)
  unfolding IsNumber
  four_number j low =
      let kid : (q d : ℕ) → d < 16 → get_or (four_kids j) q 0 ≡ 256 + d → IsNumber rows 1 (kid_at rows (272 + j) q) =
      λ q d few is. rw (four_kid j q low ∙ is) (two_number d few) in (
        omega arith,
        omega (arith, begins.there, low),
        kid 0 (j % 16) (omega arith) refl,
        kid 1 (j / 16 % 16) (omega arith) refl,
        kid 2 (j / 256 % 16) (omega arith) refl,
        kid 3 (j / 4096 % 16) (omega arith) refl,
      )

  pub four_square : (j : ℕ) → j < 65536 → square_in rows 2 (272 + j) ≡ block_of j
  unfolding square_in block_of
  four_square j low =
      let kid : (q d : ℕ) → d < 16 → get_or (four_kids j) q 0 ≡ 256 + d → square_in rows 1 (kid_at rows (272 + j) q) ≡ two_of d =
      λ q d few is. ap (square_in rows 1) (four_kid j q low ∙ is) ∙ two_square d few in
      let nw = kid 0 (j % 16) (omega arith) refl ∙ two_low j in
      let ne = kid 1 (j / 16 % 16) (omega arith) refl ∙ two_low (j / 16) in
      let sw = kid 2 (j / 256 % 16) (omega arith) refl ∙ two_low (j / 256) in
      let se = kid 3 (j / 4096 % 16) (omega arith) refl ∙ two_low (j / 4096) in
      λ i. four (nw i) (ne i) (sw i) (se i)

  -- the square of four of them
  pub eight_of-numbers : (kids : List ℕ) (a b c d : ℕ) → a < 65536 → b < 65536 → c < 65536 → d < 65536 → get_or kids 0 0 ≡ 272 + a → get_or kids 1 0 ≡ 272 + b →
      get_or kids 2 0 ≡ 272 + c → get_or kids 3 0 ≡ 272 + d → square_of rows 2 kids ≡ eight_of (a ∷ b ∷ c ∷ d ∷ [])
  unfolding eight_of
  eight_of-numbers kids a b c d ha hb hc hd is_a is_b is_c is_d =
      let kid : (q e : ℕ) → e < 65536 → get_or kids q 0 ≡ 272 + e → square_in rows 2 (get_or kids q 0) ≡ block_of e =
      λ q e low is. ap (square_in rows 2) is ∙ four_square e low in
      let nw = kid 0 a ha is_a in
      let ne = kid 1 b hb is_b in
      let sw = kid 2 c hc is_c in
      let se = kid 3 d hd is_d in
      λ i. four (nw i) (ne i) (sw i) (se i)

  -- a square of 8 by 8 cells whose quadrants are among them
  pub eight_square : (n a b c d : ℕ) → a < 65536 → b < 65536 → c < 65536 → d < 65536 → kid_at rows n 0 ≡ 272 + a → kid_at rows n 1 ≡ 272 + b →
      kid_at rows n 2 ≡ 272 + c → kid_at rows n 3 ≡ 272 + d → square_in rows 3 n ≡ eight_of (a ∷ b ∷ c ∷ d ∷ [])
  unfolding square_in
  eight_square n = eight_of-numbers (kids_at rows n)

-- one of 16 by 16 cells by those of its quadrants
pub sixteen_square : (rows : List (List ℕ)) (n : ℕ) (a b c d : List ℕ) → square_in rows 3 (kid_at rows n 0) ≡ eight_of a → square_in rows 3 (kid_at rows n 1) ≡ eight_of b →
    square_in rows 3 (kid_at rows n 2) ≡ eight_of c → square_in rows 3 (kid_at rows n 3) ≡ eight_of d → square_in rows 4 n ≡ sixteen_of (a ∷ b ∷ c ∷ d ∷ [])
unfolding square_in sixteen_of
sixteen_square table n a b c d nw ne sw se i = four (nw i) (ne i) (sw i) (se i)
