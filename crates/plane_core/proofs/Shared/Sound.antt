-- What the rows of a walk stand for: each number names the square that was walked, and each row is the one of its square.
use Rattle.plane_core.proofs.Names.{AreRows, Bool, Has, IsRow, List, Numbered, Square, SquareRow, Walks, [], ap, arith, cases_lt, cond, drop, false, four, get_or, get_or_append_left, get_or_push, kid, length, length-append, length_push}
use Rattle.plane_core.proofs.Names.{list_any, no_row, not, number_row, numbered, one, passes_at_first, position_or_len, refl, row_at, same_kids, same_row, square_of, subst, suc, sym, take, take-append-drop, take-append-le, take_at, true}
use Rattle.plane_core.proofs.Names.{zero, ℕ, ◌++◌, ◌+◌, ◌-◌, ◌<◌, ◌||◌, ◌∙◌, ◌∷◌, ◌≡◌, ◌≤◌}
use Rattle.worlds.specs.Square.{empty_square, IsSquare}
use Rattle.plane_core.specs.Rows.{number_square, IsNumber, square_in}
use Rattle.plane_core.proofs.Shared.Numbering.{Grows, Grows-more, Grows-then, RowHas, Has-grown, Has-four, Has-empty, RowHas-again, number_row-is, number_square-grows, same_row-is, not_found}

-- what holds of each of four
pub each_of_four : (P : ℕ → Type 0) → P 0 → P 1 → P 2 → P 3 → (q : ℕ) → q < 4 → P q
each_of_four P a b c d q h = grind (arith)

-- the row of a number of a level above 0
pub IsNumber-level : (rows : List SquareRow) (k n : ℕ) → IsNumber rows (suc k) n → 0 < n → (n ≤ length rows) × ((row_at rows n).level ≡ suc k)
unfolding IsNumber
IsNumber-level rows k n h live = h live

pub IsNumber-from : (rows : List SquareRow) (k n : ℕ) → (0 < n → (n ≤ length rows) × ((row_at rows n).level ≡ suc k)) → IsNumber rows (suc k) n
unfolding IsNumber
IsNumber-from rows k n h = h

pub IsNumber-state : (rows : List SquareRow) (s : ℕ) → s < 256 → IsNumber rows 0 s
unfolding IsNumber
IsNumber-state rows s h = h

pub state-IsNumber : (rows : List SquareRow) (s : ℕ) → IsNumber rows 0 s → s < 256
unfolding IsNumber
state-IsNumber rows s h = h

-- 0 is a number of every level
pub zero-IsNumber : (rows : List SquareRow) (k : ℕ) → IsNumber rows k 0
zero-IsNumber rows zero = IsNumber-state rows 0 (omega arith)
zero-IsNumber rows (suc k) = IsNumber-from rows k 0 (λ live. absurd (omega (arith, live)))

-- a number of a level above 0, by its row
pub number-listed : (rows : List SquareRow) (k n : ℕ) → 0 < k → 0 < n → IsNumber rows k n →
    (n ≤ length rows) × ((row_at rows n).level ≡ k)
number-listed rows zero n hk hn h = absurd (omega (arith, hk))
number-listed rows (suc k) n hk hn h = IsNumber-level rows k n h hn

pub listed-number : (rows : List SquareRow) (k n : ℕ) → 0 < k → n ≤ length rows →
    (row_at rows n).level ≡ k → IsNumber rows k n
listed-number rows zero n hk le e = absurd (omega (arith, hk))
listed-number rows (suc k) n hk le e = IsNumber-from rows k n (λ live. (le, e))

-- a row stays where it is
pub row_kept : (old new : List SquareRow) (i : ℕ) → Grows old new → i < length old → get_or new i no_row ≡ get_or old i no_row
row_kept old new i g h = ap (λ (rows : List SquareRow). get_or rows i no_row) g.is ∙ get_or_append_left old g.more no_row i h

pub Grows-length : (old new : List SquareRow) → Grows old new → length old ≤ length new
Grows-length old new g = omega (arith, ap length g.is, length-append old g.more)

pub Grows-take : (rows : List SquareRow) (i : ℕ) → Grows (take i rows) rows
Grows-take rows i = record { more = drop i rows; is = sym (take-append-drop i rows) }

-- a number stays one
pub IsNumber-grown : (old new : List SquareRow) (k n : ℕ) → Grows old new → IsNumber old k n → IsNumber new k n
IsNumber-grown old new zero n g h = IsNumber-state new n (state-IsNumber old n h)
IsNumber-grown old new (suc k) n g h = IsNumber-from new k n (λ live.
    let at = IsNumber-level old k n h live in
    let longer : length old ≤ length new = Grows-length old new g in
    (omega arith, ap (λ (row : SquareRow). row.level) (row_kept old new (n - 1) g (omega arith)) ∙ at.1))

-- with one more row a number of the rows before was one
pub IsNumber-before : (rows : List SquareRow) (row : SquareRow) (j i : ℕ) → i < length rows → IsNumber (rows ++ row ∷ []) (suc j) (suc i) → IsNumber rows (suc j) (suc i)
IsNumber-before rows row j i lt h =
    let all = rows ++ row ∷ [] in
    let at = IsNumber-level all j (suc i) h (omega arith) in
    let one_less : suc i - 1 ≡ i = omega arith in
    let kept : get_or all i no_row ≡ get_or rows i no_row = row_kept rows all i (Grows-more rows (row ∷ [])) lt in
    IsNumber-from rows j (suc i) (λ live.
    (omega arith, ap (λ m. (get_or rows m no_row).level) one_less ∙ ap (λ (r : SquareRow). r.level) (sym kept) ∙ ap (λ m. (get_or all m no_row).level) (sym one_less) ∙ at.1))

-- and the number of that row is of its level
pub IsNumber-last : (rows : List SquareRow) (row : SquareRow) (j i : ℕ) → i ≡ length rows → IsNumber (rows ++ row ∷ []) (suc j) (suc i) → row.level ≡ suc j
IsNumber-last rows row j i last h = grind (arith, IsNumber-level, get_or_push)

-- a kid is a number
pub kid_number : (rows : List SquareRow) (k i : ℕ) → AreRows rows → i < length rows → (get_or rows i no_row).level ≡ suc k → (q : ℕ) → q < 4 → IsNumber rows k (kid (get_or rows i no_row) q)
kid_number rows k i valid h level q hq =
    let row = get_or rows i no_row in
    let below : row.level - 1 ≡ k = omega (arith, level) in
    IsNumber-grown (take i rows) rows k (kid row q) (Grows-take rows i) (subst (λ j. IsNumber (take i rows) j (kid row q)) below ((valid i h).kids q hq))

-- a kid of a row that a number names is a number of one level less
pub number-kid : (rows : List SquareRow) (k n q : ℕ) → AreRows rows → 0 < k → 0 < n → IsNumber rows k n → q < 4 → IsNumber rows (k - 1) (kid (row_at rows n) q)
number-kid rows zero n q valid hk hn h hq = absurd (omega (arith, hk))
number-kid rows (suc k) n q valid hk hn h hq = grind (arith, IsNumber-level, kid_number)

pub square_in-none : (rows : List SquareRow) (k : ℕ) → square_in rows k 0 ≡ empty_square k
unfolding square_in empty_square
square_in-none rows k = grind (arith)

pub square_in-state : (rows : List SquareRow) (s : ℕ) → square_in rows 0 s ≡ one s
unfolding square_in
square_in-state rows s = refl

pub square_in-row : (rows : List SquareRow) (k i : ℕ) → square_in rows (suc k) (suc i)
    ≡ four (square_in rows k (kid (get_or rows i no_row) 0)) (square_in rows k (kid (get_or rows i no_row) 1)) (square_in rows k (kid (get_or rows i no_row) 2)) (square_in rows k (kid (get_or rows i no_row) 3))
unfolding square_in
square_in-row rows k i = refl

-- the square of a number above 0
pub square_in-number : (rows : List SquareRow) (k n : ℕ) → 0 < n →
    square_in rows (suc k) n ≡ square_of rows k (row_at rows n).kids
square_in-number rows k zero h = absurd (omega (arith, h))
square_in-number rows k (suc i) h = grind (arith, square_in-row)

-- the square of a number stays when rows come behind
pub square_in-grown : (old new : List SquareRow) (k n : ℕ) → Grows old new → AreRows old → IsNumber old k n → square_in new k n ≡ square_in old k n
square_in-grown old new zero n g valid h = square_in-state new n ∙ sym (square_in-state old n)
square_in-grown old new (suc k) zero g valid h = square_in-none new (suc k) ∙ sym (square_in-none old (suc k))
square_in-grown old new (suc k) (suc i) g valid h =
    let at = IsNumber-level old k (suc i) h (omega arith) in
    let lt : i < length old = omega arith in
    let one_less : suc i - 1 ≡ i = omega arith in
    let level : (get_or old i no_row).level ≡ suc k = ap (λ j. (get_or old j no_row).level) (sym one_less) ∙ at.1 in
    let same : get_or new i no_row ≡ get_or old i no_row = row_kept old new i g lt in
    let quadrant = λ (q : ℕ) (hq : q < 4). ap (λ (row : SquareRow). square_in new k (kid row q)) same ∙ square_in-grown old new k (kid (get_or old i no_row) q) g valid (kid_number old k i valid lt level q hq) in
    grind (arith, square_in-row)

-- each number is the number of its square
pub record EachHas (rows : List SquareRow) : Type 0 where
  pub has : (k n : ℕ) → IsNumber rows k n → Has k (square_in rows k n) rows n

-- what a walk gives of a square
pub record IsSound (k : ℕ) (t : Square) (r : Numbered) : Type 0 where
  pub valid : AreRows r.rows
  pub each : EachHas r.rows
  pub number : IsNumber r.rows k r.number
  pub square : square_in r.rows k r.number ≡ t

-- rows with one more
pub AreRows-push : (rows : List SquareRow) (row : SquareRow) → AreRows rows → IsRow rows row → AreRows (rows ++ row ∷ [])
AreRows-push rows row valid next i h =
    grind (arith, cases_lt, take-append-le, get_or_append_left, length_push, take_at, get_or_push)

-- the row of four numbers
abbrev pub row_of : ℕ → ℕ → ℕ → ℕ → ℕ → SquareRow
row_of k a b c d = record { level = k; kids = a ∷ b ∷ c ∷ d ∷ [] }

-- the walk of four quadrants, and of their row
pub walks-quadrants : (k : ℕ) (nw ne sw se : Square) (d0 d1 d2 d3 d4 d5 : List SquareRow) (a b c d m : ℕ) → Walks k nw d0 d1 a → Walks k ne d1 d2 b → Walks k sw d2 d3 c → Walks k se d3 d4 d
    → (number_row (row_of (suc k) a b c d) d4).rows ≡ d5 → (number_row (row_of (suc k) a b c d) d4).number ≡ m → Walks (suc k) (four nw ne sw se) d0 d5 m
unfolding number_square
walks-quadrants k nw ne sw se d0 d1 d2 d3 d4 d5 a b c d m ha hb hc hd hr hm = grind (arith)

pub Has-state : (rows done : List SquareRow) (s : ℕ) → Has 0 (square_in rows 0 s) done s
unfolding number_square square_in
Has-state rows done s = refl

pub Has-none : (rows done : List SquareRow) (k : ℕ) → Has k (square_in rows k 0) done 0
Has-none rows done k = subst (λ (t : Square). Has k t done 0) (sym (square_in-none rows k)) (Has-empty k done)

-- four numbers of a level, each the number of its square
record AreKids (rows : List SquareRow) (k a b c d : ℕ) : Type 0 where
  valid : AreRows rows
  each : EachHas rows
  nw : IsNumber rows k a
  ne : IsNumber rows k b
  sw : IsNumber rows k c
  se : IsNumber rows k d

empty_square-four : (k : ℕ) → empty_square (suc k) ≡ four (empty_square k) (empty_square k) (empty_square k) (empty_square k)
unfolding empty_square
empty_square-four k = refl

-- each of the kids is a number
which_kid : (rows : List SquareRow) (k a b c d : ℕ) → AreKids rows k a b c d → (q : ℕ) → q < 4 → IsNumber rows k (kid (row_of (suc k) a b c d) q)
which_kid rows k a b c d kids q h = grind (arith)

-- the square of a row
quadrants : (rows new : List SquareRow) (k a b c d : ℕ) → Grows rows new → AreKids rows k a b c d
    → four (square_in new k a) (square_in new k b) (square_in new k c) (square_in new k d) ≡ four (square_in rows k a) (square_in rows k b) (square_in rows k c) (square_in rows k d)
quadrants rows new k a b c d g kids = grind (arith, square_in-grown)

square_in-at : (rows : List SquareRow) (k i a b c d : ℕ) → get_or rows i no_row ≡ row_of (suc k) a b c d → square_in rows (suc k) (suc i) ≡ four (square_in rows k a) (square_in rows k b) (square_in rows k c) (square_in rows k d)
square_in-at rows k i a b c d e = grind (arith, square_in-row)

-- the square of four numbers has the number that their row has
Has-kids : (rows new : List SquareRow) (k a b c d n : ℕ) → Grows rows new → AreKids rows k a b c d → RowHas (row_of (suc k) a b c d) new n
    → Has (suc k) (four (square_in rows k a) (square_in rows k b) (square_in rows k c) (square_in rows k d)) new n
Has-kids rows new k a b c d n g kids hr =
    Has-four k (square_in rows k a) (square_in rows k b) (square_in rows k c) (square_in rows k d) new a b c d n
    (Has-grown k (square_in rows k a) rows new a g (kids.each.has k a kids.nw))
    (Has-grown k (square_in rows k b) rows new b g (kids.each.has k b kids.ne))
    (Has-grown k (square_in rows k c) rows new c g (kids.each.has k c kids.sw))
    (Has-grown k (square_in rows k d) rows new d g (kids.each.has k d kids.se))
    hr

-- with one more row each number is still that of its square
module _ (rows : List SquareRow) (k a b c d : ℕ) (kids : AreKids rows k a b c d) (new : RowHas (row_of (suc k) a b c d) (rows ++ row_of (suc k) a b c d ∷ []) (length rows + 1)) where
  has_before : (j i : ℕ) → i < length rows → IsNumber (rows ++ row_of (suc k) a b c d ∷ []) (suc j) (suc i) → Has (suc j) (square_in (rows ++ row_of (suc k) a b c d ∷ []) (suc j) (suc i)) (rows ++ row_of (suc k) a b c d ∷ []) (suc i)
  has_before j i lt h =
      let row = row_of (suc k) a b c d in
      let all = rows ++ row ∷ [] in
      let g : Grows rows all = Grows-more rows (row ∷ []) in
      let old = IsNumber-before rows row j i lt h in
      subst (λ (t : Square). Has (suc j) t all (suc i)) (sym (square_in-grown rows all (suc j) (suc i) g kids.valid old)) (Has-grown (suc j) (square_in rows (suc j) (suc i)) rows all (suc i) g (kids.each.has (suc j) (suc i) old))

  has_last : (j i : ℕ) → i ≡ length rows → IsNumber (rows ++ row_of (suc k) a b c d ∷ []) (suc j) (suc i) → Has (suc j) (square_in (rows ++ row_of (suc k) a b c d ∷ []) (suc j) (suc i)) (rows ++ row_of (suc k) a b c d ∷ []) (suc i)
  has_last j i last h =
      let row = row_of (suc k) a b c d in
      let all = rows ++ row ∷ [] in
      let g : Grows rows all = Grows-more rows (row ∷ []) in
      let here : get_or all i no_row ≡ row = get_or_push rows row no_row i (sym last) in
      let level : suc k ≡ suc j = IsNumber-last rows row j i last h in
      let same : k ≡ j = omega (arith, level) in
      let count : length rows + 1 ≡ suc i = omega (arith, last) in
      let is : square_in all (suc k) (suc i) ≡ four (square_in rows k a) (square_in rows k b) (square_in rows k c) (square_in rows k d) = square_in-at all k i a b c d here ∙ quadrants rows all k a b c d g kids in
      let has : Has (suc k) (square_in all (suc k) (suc i)) all (suc i) = subst (λ (t : Square). Has (suc k) t all (suc i)) (sym is) (Has-kids rows all k a b c d (suc i) g kids (subst (λ m. RowHas row all m) count new)) in
      subst (λ m. Has (suc m) (square_in all (suc m) (suc i)) all (suc i)) same has

  has_all : (j n : ℕ) → IsNumber (rows ++ row_of (suc k) a b c d ∷ []) j n → Has j (square_in (rows ++ row_of (suc k) a b c d ∷ []) j n) (rows ++ row_of (suc k) a b c d ∷ []) n
  has_all zero n h = Has-state (rows ++ row_of (suc k) a b c d ∷ []) (rows ++ row_of (suc k) a b c d ∷ []) n
  has_all (suc j) zero h = Has-none (rows ++ row_of (suc k) a b c d ∷ []) (rows ++ row_of (suc k) a b c d ∷ []) (suc j)
  has_all (suc j) (suc i) h =
      let at = IsNumber-level (rows ++ row_of (suc k) a b c d ∷ []) j (suc i) h (omega arith) in
      grind (arith, cases_lt, has_before, has_last, length_push)

pub found_within : (p : SquareRow → Bool) (xs : List SquareRow) → list_any p xs ≡ true → position_or_len p xs < length xs
found_within p [] h = cc
found_within p (x ∷ xs) h =
    elim (p x) as (λ b. ((b || list_any p xs) ≡ true) → cond (not b) (1 + position_or_len p xs) 0 < length (x ∷ xs)) [
      | true ↦ λ e. omega arith
      | false ↦ λ e. let k = found_within p xs e in omega arith
    ] h

-- the row that is found is the one that was sought
pub found_at : (row : SquareRow) (rows : List SquareRow) → list_any (same_row row) rows ≡ true → get_or rows (position_or_len (same_row row) rows) no_row ≡ row
found_at row rows e = sym (same_row-is row (get_or rows (position_or_len (same_row row) rows) no_row) (passes_at_first (same_row row) rows no_row (found_within (same_row row) rows e)))

-- the row of sound kids, numbered
numbered-sound : (x y : Bool) (rows : List SquareRow) (k a b c d : ℕ) → AreKids rows k a b c d → k < 62
    → same_kids (a ∷ b ∷ c ∷ d ∷ []) (0 ∷ 0 ∷ 0 ∷ 0 ∷ []) ≡ x → list_any (same_row (row_of (suc k) a b c d)) rows ≡ y
    → number_row (row_of (suc k) a b c d) rows ≡ numbered x y (row_of (suc k) a b c d) rows (position_or_len (same_row (row_of (suc k) a b c d)) rows + 1)
    → IsSound (suc k) (four (square_in rows k a) (square_in rows k b) (square_in rows k c) (square_in rows k d)) (numbered x y (row_of (suc k) a b c d) rows (position_or_len (same_row (row_of (suc k) a b c d)) rows + 1))
numbered-sound true y rows k a b c d kids high ex ey is =
    grind (arith, IsNumber-from, square_in-none, empty_square-four)
numbered-sound false true rows k a b c d kids high ex ey is =
    let row = row_of (suc k) a b c d in
    let i = position_or_len (same_row row) rows in
    let within : i < length rows = found_within (same_row row) rows ey in
    let at : get_or rows i no_row ≡ row = found_at row rows ey in
    let next : i + 1 ≡ suc i = omega arith in
    grind (arith, IsNumber-from, square_in-at)
numbered-sound false false rows k a b c d kids high ex ey is =
    let row = row_of (suc k) a b c d in
    let all = rows ++ row ∷ [] in
    let g : Grows rows all = Grows-more rows (row ∷ []) in
    let last : position_or_len (same_row row) rows ≡ length rows = not_found (same_row row) rows ey in
    let count : position_or_len (same_row row) rows + 1 ≡ length rows + 1 = ap (λ m. m + 1) last in
    let again : RowHas row all (length rows + 1) = subst (λ m. RowHas row all m) count (subst (λ (r : Numbered). RowHas row r.rows r.number) is (RowHas-again row rows)) in
    let here : get_or all (length rows) no_row ≡ row = get_or_push rows row no_row (length rows) refl in
    let next : length rows + 1 ≡ suc (length rows) = omega arith in
    let one_less : (length rows + 1) - 1 ≡ length rows = omega arith in
    let row_fits : IsRow rows row = record { low = omega arith; high = omega arith; kids = λ q hq. let less : suc k - 1 ≡ k = omega arith in subst (λ m. IsNumber rows m (kid row q)) (sym less) (which_kid rows k a b c d kids q hq) } in
    record {
      valid = AreRows-push rows row kids.valid row_fits;
      each = record { has = has_all rows k a b c d kids again };
      number = subst (IsNumber all (suc k)) (sym count) (IsNumber-from all k (length rows + 1) (λ live. (omega (arith, length_push rows row), ap (λ m. (get_or all m no_row).level) one_less ∙ ap (λ (r : SquareRow). r.level) here)));
      square = ap (square_in all (suc k)) (count ∙ next) ∙ square_in-at all k (length rows) a b c d here ∙ quadrants rows all k a b c d g kids;
    }

number_row-sound : (rows : List SquareRow) (k a b c d : ℕ) → AreKids rows k a b c d → k < 62
    → IsSound (suc k) (four (square_in rows k a) (square_in rows k b) (square_in rows k c) (square_in rows k d)) (number_row (row_of (suc k) a b c d) rows)
number_row-sound rows k a b c d kids high = grind (arith, number_row-is, numbered-sound)

-- the walks of four quadrants, each over the rows of the one before
pub record AreSound (k : ℕ) (nw ne sw se : Square) (rows : List SquareRow) : Type 0 where
  pub nw_is : IsSound k nw (number_square k nw rows)
  pub ne_is : IsSound k ne (number_square k ne (number_square k nw rows).rows)
  pub sw_is : IsSound k sw (number_square k sw (number_square k ne (number_square k nw rows).rows).rows)
  pub se_is : IsSound k se (number_square k se (number_square k sw (number_square k ne (number_square k nw rows).rows).rows).rows)

pub quadrants-sound : (k : ℕ) (nw ne sw se : Square) (rows : List SquareRow)
    → ((t : Square) (rows : List SquareRow) → AreRows rows → EachHas rows → IsSquare k t → IsSound k t (number_square k t rows))
    → AreRows rows → EachHas rows → IsSquare k nw × IsSquare k ne × IsSquare k sw × IsSquare k se → AreSound k nw ne sw se rows
quadrants-sound k nw ne sw se rows sound valid each is = grind (arith)

-- what a walk gives stands for what was walked
pub number_square-sound : (k : ℕ) (t : Square) (rows : List SquareRow) → AreRows rows → EachHas rows → IsSquare k t → k ≤ 62 → IsSound k t (number_square k t rows)
unfolding number_square IsSquare
number_square-sound zero (one s) rows valid each is high = record { valid = valid; each = each; number = IsNumber-state rows s is; square = square_in-state rows s }
number_square-sound (suc k) (one s) rows valid each is high = absurd is
number_square-sound zero (four nw ne sw se) rows valid each is high = absurd is
number_square-sound (suc k) (four nw ne sw se) rows valid each is high =
    let less : k ≤ 62 = omega arith in
    let walks = quadrants-sound k nw ne sw se rows (λ t rows valid each is. number_square-sound k t rows valid each is less) valid each is in
    let a = number_square k nw rows in
    let b = number_square k ne a.rows in
    let c = number_square k sw b.rows in
    let d = number_square k se c.rows in
    let gc : Grows c.rows d.rows = number_square-grows k se c.rows in
    let gb : Grows b.rows d.rows = Grows-then b.rows c.rows d.rows (number_square-grows k sw b.rows) gc in
    let ga : Grows a.rows d.rows = Grows-then a.rows b.rows d.rows (number_square-grows k ne a.rows) gb in
    let kids : AreKids d.rows k a.number b.number c.number d.number = record {
      valid = walks.se_is.valid;
      each = walks.se_is.each;
      nw = IsNumber-grown a.rows d.rows k a.number ga walks.nw_is.number;
      ne = IsNumber-grown b.rows d.rows k b.number gb walks.ne_is.number;
      sw = IsNumber-grown c.rows d.rows k c.number gc walks.sw_is.number;
      se = walks.se_is.number;
    } in
    let ea : square_in d.rows k a.number ≡ nw = square_in-grown a.rows d.rows k a.number ga walks.nw_is.valid walks.nw_is.number ∙ walks.nw_is.square in
    let eb : square_in d.rows k b.number ≡ ne = square_in-grown b.rows d.rows k b.number gb walks.ne_is.valid walks.ne_is.number ∙ walks.ne_is.square in
    let ec : square_in d.rows k c.number ≡ sw = square_in-grown c.rows d.rows k c.number gc walks.sw_is.valid walks.sw_is.number ∙ walks.sw_is.square in
    let squares : four (square_in d.rows k a.number) (square_in d.rows k b.number) (square_in d.rows k c.number) (square_in d.rows k d.number) ≡ four nw ne sw se = λ j. four (ea j) (eb j) (ec j) (walks.se_is.square j) in
    subst (λ (t : Square). IsSound (suc k) t (number_row (row_of (suc k) a.number b.number c.number d.number) d.rows)) squares (number_row-sound d.rows k a.number b.number c.number d.number kids (omega arith))

-- with no rows each number is that of its square
pub AreRows-none : AreRows []
AreRows-none i h = absurd (omega arith)

pub EachHas-none : EachHas []
EachHas-none = record { has = has }
  where
    has : (k n : ℕ) → IsNumber [] k n → Has k (square_in [] k n) [] n
    has zero n h = Has-state [] [] n
    has (suc k) zero h = Has-none [] [] (suc k)
    has (suc k) (suc i) h = let at = IsNumber-level [] k (suc i) h (omega arith) in absurd (omega (arith, at.0))
