-- The counts of states, row by row.
use Rattle.plane_core.proofs.Names.{AreCountsOf, AreRows, Gains, HasRoom, IsNumber, IsTallied, List, Square, SquareRow, Tally, [], ap, ap₂, arith, blank, cases_lt, cell-blank, cond, count_of, edge_of, eq-eqb, four, get_or, get_or-replicate}
use Rattle.plane_core.proofs.Names.{get_or-set_other, get_or-set_same, get_or_append_left, get_or_push, held, inl, inr, is_any, is_live, is_state, kid, length, length-replicate, length-set, length_push, ne_eqb, no_row, one, pow_mono, refl}
use Rattle.plane_core.proofs.Names.{replicate, root_level, root_of, row_square, set, square_in, subst, suc, sum, sum_by_more, sym, take, tally, world_of_rows, zero, ℕ, ◌*◌, ◌++◌, ◌+◌, ◌-◌, ◌<◌, ◌^◌, ◌∙◌, ◌∷◌, ◌≡◌, ◌≤◌}
use Rattle.std.proofs.Math.Seq.{take-length}
use Rattle.std.proofs.Math.Nat.{add-mul, mul-add, mul-one, mul-zero, zero-mul, le-mul_of_pos_right}
use Rattle.plane_core.specs.Counts.{sum_to}
use Rattle.plane_core.proofs.Shared.Sound.{square_in-none, square_in-state, square_in-row, state-IsNumber, number-listed}
use Rattle.plane_core.proofs.Shared.Roots.{rooted, root-IsSquare, world-root}
use Rattle.plane_core.proofs.Totals.{total, total-blank, total-put_square, population-total, tally-le, tally-empty, is_live-le}
use Rattle.plane_core.proofs.Measured.{count-zero}
use Rattle.plane_core.proofs.Shared.Kids.{kid_is}

-- the state 0 is none of those that are counted
is_state-zero : (s : ℕ) → 0 < s → is_state s 0 ≡ 0
is_state-zero s h = ap (λ b. cond b 1 0) (ne_eqb 0 s (λ e. absurd (omega (arith, h, e))))

sum-none : (g : ℕ → ℕ) → sum_to g 0 ≡ 0
unfolding sum_to
sum-none g = refl

sum-more : (g : ℕ → ℕ) (n : ℕ) → sum_to g (suc n) ≡ sum_to g n + g n
unfolding sum_to
sum-more g n = refl

sum-same : (g h : ℕ → ℕ) (n : ℕ) → ((i : ℕ) → i < n → g i ≡ h i) → sum_to g n ≡ sum_to h n
sum-same g h zero same = sum-none g ∙ sym (sum-none h)
sum-same g h (suc n) same = sum-more g n ∙ ap₂ (λ a b. a + b) (sum-same g h n (λ i lt. same i (omega (arith, lt)))) (same n (omega arith)) ∙ sym (sum-more h n)

sum-zero : (g : ℕ → ℕ) (n : ℕ) → ((i : ℕ) → i < n → g i ≡ 0) → sum_to g n ≡ 0
sum-zero g zero none = sum-none g
sum-zero g (suc n) none = let before = sum-zero g n (λ i lt. none i (omega (arith, lt))) in let last = none n (omega arith) in let e = sum-more g n in omega arith

-- one of the numbers is at most their sum
sum-one : (g : ℕ → ℕ) (n j : ℕ) → j < n → g j ≤ sum_to g n
sum-one g zero j h = absurd (omega (arith, h))
sum-one g (suc n) j h =
    let e = sum-more g n in
    elim (cases_lt j n) [
      | inl before ↦ let le = sum-one g n j before in omega arith
      | inr last ↦ let same : n ≡ j = omega arith in let at : g n ≡ g j = ap g same in omega arith
    ]

-- the products of a list's numbers and those of w
abbrev by : List ℕ → (ℕ → ℕ) → ℕ → ℕ
by xs w i = get_or xs i 0 * w i

-- one of the numbers is greater by v
sum-change : (g h : ℕ → ℕ) (n j v : ℕ) → j < n → ((i : ℕ) → (i ≡ j → ⊥) → h i ≡ g i) → h j ≡ g j + v →
    sum_to h n ≡ sum_to g n + v
sum-change g h zero j v lt other here = absurd (omega (arith, lt))
sum-change g h (suc n) j v lt other here =
    let e = sum-more h n in
    let d = sum-more g n in
    elim (cases_lt j n) [
      | inl below ↦
          let last = other n (λ same. absurd (omega (arith, below, same))) in
          omega (arith, sum-change g h n j v below other here)
      | inr above ↦ grind (arith, sum-same)
    ]

sum-set : (xs : List ℕ) (w : ℕ → ℕ) (j v n : ℕ) → j < n → j < length xs →
    sum_to (by (set xs j (get_or xs j 0 + v)) w) n ≡ sum_to (by xs w) n + v * w j
sum-set xs w j v n h long =
    let new = get_or xs j 0 + v in
    sum-change (by xs w) (by (set xs j new) w) n j (v * w j) h
    (λ i other. ap (λ a. a * w i) (get_or-set_other xs j i new 0 other))
    (ap (λ a. a * w j) (get_or-set_same xs j new 0 long) ∙ add-mul (get_or xs j 0) v (w j))

-- a list with one number more
sum-push : (xs : List ℕ) (w : ℕ → ℕ) (v : ℕ) → sum_to (by (xs ++ v ∷ []) w) (length (xs ++ v ∷ [])) ≡ sum_to (by xs w) (length xs) + v * w (length xs)
sum-push xs w v =
    let all : List ℕ = xs ++ v ∷ [] in
    let front : sum_to (by all w) (length xs) ≡ sum_to (by xs w) (length xs) = sum-same _ _ (length xs) (λ i lt. ap (λ a. a * w i) (get_or_append_left xs (v ∷ []) 0 i lt)) in
    let last : by all w (length xs) ≡ v * w (length xs) = ap (λ a. a * w (length xs)) (get_or_push xs v 0 (length xs) refl) in
    let long : length all ≡ suc (length xs) = omega (arith, length_push xs v) in
    ap (sum_to (by all w)) long ∙ sum-more (by all w) (length xs) ∙ ap₂ (λ a b. a + b) front last

-- no numbers but 0
sum-replicate : (w : ℕ → ℕ) (n m : ℕ) → m ≤ n → sum_to (by (replicate n 0) w) m ≡ 0
sum-replicate w n m h = sum-zero _ m (λ i lt. ap (λ a. a * w i) (get_or-replicate n i 0 0 (omega (arith, h, lt))) ∙ zero-mul (w i))

-- the counts of one state alone
sum-state : (xs : List ℕ) (s n : ℕ) → s < n → sum_to (by xs (is_state s)) n ≡ get_or xs s 0
sum-state xs s n h =
    let all = sum-change (λ _. 0) (by xs (is_state s)) n s (get_or xs s 0) h
    (λ i other. ap (λ b. get_or xs i 0 * cond b 1 0) (ne_eqb i s other) ∙ mul-zero (get_or xs i 0))
    (ap (λ b. get_or xs s 0 * cond b 1 0) (eq-eqb s s refl) ∙ mul-one (get_or xs s 0) ∙ omega arith) in
    omega (arith, all, sum-zero (λ _. 0) n (λ i lt. refl))

-- a square has a cell
tally-some : (t : Square) → 1 ≤ tally is_any t
tally-some (one s) = omega arith
tally-some (four nw ne sw se) = let some = tally-some nw in omega arith

-- a square whose number is 0 adds nothing
pub gains-none : (rows : List SquareRow) (t : Tally) (n k number : ℕ) → number ≡ 0 → length t.counts ≡ 256 → Gains rows t t n (square_in rows k number)
gains-none rows t n k number e states = grind (arith, square_in-none, tally-empty, mul-zero)

-- a cell is counted
pub gains-state : (rows : List SquareRow) (old new : Tally) (n k s : ℕ) → k ≡ 0 → (s ≡ 0 → ⊥) → IsNumber rows k s → length old.counts ≡ 256 → s < 256
    → new.counts ≡ set old.counts s (get_or old.counts s 0 + n) → new.times.items ≡ old.times.items
    → Gains rows old new n (square_in rows k s)
gains-state rows old new n k s ground_level live is states small counts times =
    let at : square_in rows k s ≡ one s = ap (λ j. square_in rows j s) ground_level ∙ square_in-state rows s in
    let gain : (f : ℕ → ℕ) → held rows f new ≡ held rows f old + n * tally f (square_in rows k s) = λ f.
    let first : sum_to (by new.counts f) 256 ≡ sum_to (by old.counts f) 256 + n * f s = ap (λ (xs : List ℕ). sum_to (by xs f) 256) counts ∙ sum-set old.counts f s n 256 small (omega (arith, states, small)) in
    let second : sum_to (by new.times.items (λ i. tally f (row_square rows i))) (length new.times.items) ≡ sum_to (by old.times.items (λ i. tally f (row_square rows i))) (length old.times.items)
    = ap (λ (xs : List ℕ). sum_to (by xs (λ i. tally f (row_square rows i))) (length xs)) times in
    let cells : n * tally f (square_in rows k s) ≡ n * f s = ap (λ (t : Square). n * tally f t) at in
    omega arith in
    grind (arith, get_or-set_other, live, length-set)

-- a row stands more often
pub gains-row : (rows : List SquareRow) (old new : Tally) (n k m : ℕ) → (k ≡ 0 → ⊥) → (m ≡ 0 → ⊥) → IsNumber rows k m → m ≤ length old.times.items → length old.counts ≡ 256 → new.counts ≡ old.counts
    → new.times.items ≡ set old.times.items (m - 1) (get_or old.times.items (m - 1) 0 + n) → Gains rows old new n (square_in rows k m)
gains-row rows old new n k m above live is there states counts times =
    let i = m - 1 in
    let up : suc i ≡ m = omega arith in
    let level = (number-listed rows k m (omega arith) (omega arith) is).1 in
    let at : row_square rows i ≡ square_in rows k m = ap₂ (square_in rows) level up in
    let long : length new.times.items ≡ length old.times.items = ap length times ∙ length-set _ i _ in
    let gain : (f : ℕ → ℕ) → held rows f new ≡ held rows f old + n * tally f (square_in rows k m) = λ f.
    let w : ℕ → ℕ = λ j. tally f (row_square rows j) in
    let first = ap (λ (xs : List ℕ). sum_to (by xs f) 256) counts in
    let second = ap (λ (xs : List ℕ). sum_to (by xs w) (length new.times.items)) times in
    let grown = sum-set old.times.items w i n (length new.times.items) (omega arith) (omega arith) in
    let same = ap (sum_to (by old.times.items w)) long in
    let cells : n * w i ≡ n * tally f (square_in rows k m) = ap (λ (t : Square). n * tally f t) at in
    omega arith in
    grind (arith)

-- at level 0 a number is a state
pub number-small : (rows : List SquareRow) (k n : ℕ) → k ≡ 0 → IsNumber rows k n → n < 256
number-small rows k n e h = state-IsNumber rows n (subst (λ j. IsNumber rows j n) e h)

-- the sums don't overflow
pub room-state : (rows : List SquareRow) (t : Tally) (n s : ℕ) (square : Square) → s < 256 → HasRoom rows t n square → get_or t.counts s 0 + n ≤ 2 ^ 124
room-state rows t n s square h room =
    let one_of = sum-one (by t.counts is_any) 256 s h in
    grind (arith, mul-one, le-mul_of_pos_right, tally-some)

pub room-row : (rows : List SquareRow) (t : Tally) (n i : ℕ) (square : Square) → i < length t.times.items → HasRoom rows t n square → get_or t.times.items i 0 + n ≤ 2 ^ 124
room-row rows t n i square h room =
    let w : ℕ → ℕ = λ j. tally is_any (row_square rows j) in
    let one_of = sum-one (by t.times.items w) (length t.times.items) i h in
    grind (arith, le-mul_of_pos_right, tally-some)

four-times : (n a b c d : ℕ) → n * (a + b + c + d) ≡ n * a + n * b + n * c + n * d
four-times n a b c d = mul-add n (a + b + c) d ∙ ap (λ m. m + n * d) (mul-add n (a + b) c ∙ ap (λ m. m + n * c) (mul-add n a b))

-- the square of a row by its quadrants
abbrev pub quadrant : List SquareRow → ℕ → ℕ → ℕ → Square
quadrant rows i k q = square_in rows k (kid (get_or rows i no_row) q)

pub row-tally : (rows : List SquareRow) (i k : ℕ) (f : ℕ → ℕ) (n : ℕ) → suc k ≡ (get_or rows i no_row).level
    → n * tally f (row_square rows i) ≡ n * tally f (quadrant rows i k 0) + n * tally f (quadrant rows i k 1) + n * tally f (quadrant rows i k 2) + n * tally f (quadrant rows i k 3)
row-tally rows i k f n level = grind (arith, square_in-row, four-times)

-- what is known of the i-th row, which is the one behind those that are left
pub record IsNext (rows : List SquareRow) (t : Tally) (n i : ℕ) : Type 0 where
  pub level : suc ((get_or rows i no_row).level - 1) ≡ (get_or rows i no_row).level
  pub number : (q : ℕ) → q < 4 → IsNumber rows ((get_or rows i no_row).level - 1) (kid (get_or rows i no_row) q)
  pub listed : (q : ℕ) → q < 4 → 1 ≤ (get_or rows i no_row).level - 1 → kid (get_or rows i no_row) q ≤ length t.times.items
  pub room : HasRoom rows t n (row_square rows i)

pub next-of : (rows : List SquareRow) (t : Tally) (n i : ℕ) → AreRows rows → length t.times.items < length rows → i ≡ length t.times.items → HasRoom rows t n (row_square rows (length t.times.items)) → IsNext rows t n i
next-of rows t n i valid more e room =
    let below : i < length rows = omega arith in
    let of_kid = λ (q : ℕ) (hq : q < 4). kid_is rows i ((get_or rows i no_row).level - 1) q valid below refl hq in
    grind (arith)

-- what the first q quadrants add up to
abbrev first : List SquareRow → ℕ → ℕ → (ℕ → ℕ) → ℕ → ℕ
first rows i n f = sum_to (λ q. n * tally f (quadrant rows i ((get_or rows i no_row).level - 1) q))

-- the first q quadrants of the i-th row are added
pub record GainsFirst (rows : List SquareRow) (old new : Tally) (n i q : ℕ) : Type 0 where
  pub each : (f : ℕ → ℕ) → f 0 ≡ 0 → held rows f new ≡ held rows f old + first rows i n f q
  pub most : held rows is_any new ≤ held rows is_any old + first rows i n is_any q
  pub none : get_or new.counts 0 0 ≡ get_or old.counts 0 0
  pub states : length new.counts ≡ 256
  pub left : length new.times.items ≡ length old.times.items

pub first-none : (rows : List SquareRow) (t : Tally) (n i : ℕ) → length t.counts ≡ 256 → GainsFirst rows t t n i 0
first-none rows t n i states = record { each = λ f none. let e = sum-none (λ q. n * tally f (quadrant rows i ((get_or rows i no_row).level - 1) q)) in omega arith; most = omega arith; none = refl; states = states; left = refl }

first-more : (rows : List SquareRow) (i n : ℕ) (f : ℕ → ℕ) (q : ℕ) → first rows i n f (q + 1) ≡ first rows i n f q + n * tally f (quadrant rows i ((get_or rows i no_row).level - 1) q)
first-more rows i n f q = ap (first rows i n f) (let up : q + 1 ≡ suc q = omega arith in up) ∙ sum-more (λ q. n * tally f (quadrant rows i ((get_or rows i no_row).level - 1) q)) q

pub first-next : (rows : List SquareRow) (t a b : Tally) (n i q : ℕ) → GainsFirst rows t a n i q → Gains rows a b n (quadrant rows i ((get_or rows i no_row).level - 1) q) → GainsFirst rows t b n i (q + 1)
first-next rows t a b n i q before next = grind (arith, first-more)

-- four quadrants are the square of the row
first-four : (rows : List SquareRow) (i n : ℕ) (f : ℕ → ℕ) → suc ((get_or rows i no_row).level - 1) ≡ (get_or rows i no_row).level → first rows i n f 4 ≡ n * tally f (row_square rows i)
first-four rows i n f level =
    let e0 = sum-none (λ q. n * tally f (quadrant rows i ((get_or rows i no_row).level - 1) q)) in
    let e1 = first-more rows i n f 0 in let e2 = first-more rows i n f 1 in let e3 = first-more rows i n f 2 in let e4 = first-more rows i n f 3 in
    let all = row-tally rows i ((get_or rows i no_row).level - 1) f n level in
    omega arith

sum-le : (g : ℕ → ℕ) (m n : ℕ) → m ≤ n → sum_to g m ≤ sum_to g n
sum-le g m zero h = let e : sum_to g m ≡ sum_to g 0 = ap (sum_to g) (omega arith) in omega arith
sum-le g m (suc n) h =
    elim (cases_lt m (suc n)) [
      | inl lt ↦ let le = sum-le g m n (omega (arith, lt)) in let e = sum-more g n in omega arith
      | inr ge ↦ let e : sum_to g m ≡ sum_to g (suc n) = ap (sum_to g) (omega arith) in omega arith
    ]

-- there is room for the next
pub first-room : (rows : List SquareRow) (t a : Tally) (n i q : ℕ) → q < 4 → IsNext rows t n i → GainsFirst rows t a n i q → HasRoom rows a n (quadrant rows i ((get_or rows i no_row).level - 1) q)
first-room rows t a n i q few next before =
    let all = first-four rows i n is_any next.level in let e = first-more rows i n is_any q in
    grind (arith, sum-le)

pub first-all : (rows : List SquareRow) (t d : Tally) (n i q : ℕ) → q ≡ 4 → IsNext rows t n i → GainsFirst rows t d n i q → Gains rows t d n (row_square rows i)
first-all rows t d n i q last next all = grind (arith, first-four)

-- before anything is added
held-none : (rows : List SquareRow) (t : Tally) (n : ℕ) (f : ℕ → ℕ) → t.counts ≡ replicate 256 0 → t.times.items ≡ replicate n 0 → held rows f t ≡ 0
held-none rows t n f counts times =
    let w : ℕ → ℕ = λ j. tally f (row_square rows j) in
    let first : sum_to (by t.counts f) 256 ≡ 0 = ap (λ (xs : List ℕ). sum_to (by xs f) 256) counts ∙ sum-replicate f 256 256 (omega arith) in
    let second : sum_to (by t.times.items w) (length t.times.items) ≡ 0 =
    grind (arith, sum-replicate, length-replicate) in
    omega arith

root-few : (rows : List SquareRow) (f : ℕ → ℕ) → ((s : ℕ) → f s ≤ 1) → AreRows rows → tally f (root_of rows) ≤ 2 ^ 124
root-few rows f most_one valid =
    let high : root_level rows ≤ 62 = (rooted rows valid).high in
    let small : tally f (root_of rows) ≤ 2 ^ (root_level rows + root_level rows) = tally-le f (root_level rows) (root_of rows) most_one (root-IsSquare rows valid) in
    let most : 2 ^ (root_level rows + root_level rows) ≤ 2 ^ 124 = pow_mono (let twice : root_level rows + root_level rows ≤ 124 = omega arith in twice) in
    omega arith

any-few : (rows : List SquareRow) → AreRows rows → tally is_any (root_of rows) ≤ 2 ^ 124
any-few rows valid = root-few rows is_any (λ s. omega arith) valid

once : (n : ℕ) → 1 * n ≡ n
once n = omega arith

pub room-root : (rows : List SquareRow) (t : Tally) (n : ℕ) → AreRows rows → t.counts ≡ replicate 256 0 → t.times.items ≡ replicate n 0 → HasRoom rows t 1 (root_of rows)
room-root rows t n valid counts times = grind (arith, held-none, any-few, once, length-replicate)

-- once the root is added
pub tallied-root : (rows : List SquareRow) (t new : Tally) → AreRows rows → t.counts ≡ replicate 256 0 → t.times.items ≡ replicate (length rows) 0 → Gains rows t new 1 (root_of rows) → IsTallied rows (root_of rows) new
tallied-root rows t new valid counts times gain =
    grind (arith, any-few, held-none, once, get_or-replicate, length-replicate)

held-popped : (rows : List SquareRow) (t p : Tally) (n : ℕ) (f : ℕ → ℕ) → p.counts ≡ t.counts → t.times.items ≡ p.times.items ++ n ∷ [] → held rows f t ≡ held rows f p + n * tally f (row_square rows (length p.times.items))
held-popped rows t p n f counts times =
    let w : ℕ → ℕ = λ j. tally f (row_square rows j) in
    let first : sum_to (by p.counts f) 256 ≡ sum_to (by t.counts f) 256 = ap (λ (xs : List ℕ). sum_to (by xs f) 256) counts in
    let second : sum_to (by t.times.items w) (length t.times.items) ≡ sum_to (by p.times.items w) (length p.times.items) + n * w (length p.times.items)
    = ap (λ (xs : List ℕ). sum_to (by xs w) (length xs)) times ∙ sum-push p.times.items w n in
    omega arith

pub popped-room : (rows : List SquareRow) (root : Square) (t p : Tally) (n : ℕ) → p.counts ≡ t.counts → t.times.items ≡ p.times.items ++ n ∷ [] → IsTallied rows root t → HasRoom rows p n (row_square rows (length p.times.items))
popped-room rows root t p n counts times is = grind (arith, held-popped)

pub tallied-more : (rows : List SquareRow) (root : Square) (t p new : Tally) (n : ℕ) → p.counts ≡ t.counts → t.times.items ≡ p.times.items ++ n ∷ [] → IsTallied rows root t
    → Gains rows p new n (row_square rows (length p.times.items)) → IsTallied rows root new
tallied-more rows root t p new n counts times is gain = grind (arith, held-popped, length_push)

by-live : (xs : List ℕ) (n : ℕ) → get_or xs 0 0 ≡ 0 → by xs is_live n ≡ get_or xs n 0
by-live xs zero none = mul-zero (get_or xs 0 0) ∙ sym none
by-live xs (suc n) none = mul-one (get_or xs (suc n) 0)

-- the sum of a list that begins with 0
sum-taken : (xs : List ℕ) (n : ℕ) → n ≤ length xs → get_or xs 0 0 ≡ 0 → sum (take n xs) ≡ sum_to (by xs is_live) n
sum-taken xs zero h none = sym (sum-none (by xs is_live))
sum-taken xs (suc n) h none =
    let up : n + 1 ≡ suc n = omega arith in
    ap (λ m. sum (take m xs)) (sym up) ∙ sum_by_more (λ x. x) xs n 0 h
    ∙ ap₂ (λ a b. a + b) (sum-taken xs n (omega arith) none) (sym (by-live xs n none)) ∙ sym (sum-more (by xs is_live) n)

sum-live : (xs : List ℕ) → get_or xs 0 0 ≡ 0 → sum xs ≡ sum_to (by xs is_live) (length xs)
sum-live xs none = ap sum (sym (take-length xs)) ∙ sum-taken xs (length xs) (omega arith) none

-- the cells of the root are those of the world
root-total : (rows : List SquareRow) (f : ℕ → ℕ) → f 0 ≡ 0 → AreRows rows → total f (world_of_rows rows) ≡ tally f (root_of rows)
root-total rows f none valid =
    let k = root_level rows in
    let put = total-put_square f k (root_of rows) (edge_of k) (edge_of k) blank none (root-IsSquare rows valid) (λ x y h. cell-blank x y) in
    omega (arith, ap (total f) (world-root rows), put, total-blank f)

-- with no row left, all is counted
counted-all : (rows : List SquareRow) (t : Tally) (f : ℕ → ℕ) → AreRows rows → length t.times.items ≡ 0 → IsTallied rows (root_of rows) t → f 0 ≡ 0 → sum_to (by t.counts f) 256 ≡ total f (world_of_rows rows)
counted-all rows t f valid none is zero_none =
    let w : ℕ → ℕ = λ j. tally f (row_square rows j) in
    let rest : sum_to (by t.times.items w) (length t.times.items) ≡ 0 = ap (sum_to (by t.times.items w)) none ∙ sum-none (by t.times.items w) in
    let all = is.each f zero_none in
    let root = root-total rows f zero_none valid in
    omega arith

count-all : (rows : List SquareRow) (t : Tally) (s : ℕ) → AreRows rows → length t.times.items ≡ 0 → IsTallied rows (root_of rows) t → s < 256 → get_or t.counts s 0 ≡ count_of (world_of_rows rows) s
count-all rows t zero valid none is h = is.none ∙ sym (count-zero (world_of_rows rows))
count-all rows t (suc r) valid none is h = sym (sum-state t.counts (suc r) 256 h) ∙ counted-all rows t (is_state (suc r)) valid none is (is_state-zero (suc r) (omega arith))

pub tallied-all : (rows : List SquareRow) (t : Tally) → AreRows rows → length t.times.items ≡ 0 → IsTallied rows (root_of rows) t → AreCountsOf (world_of_rows rows) t.counts
tallied-all rows t valid none is =
    let live = population-total (world_of_rows rows) in
    let whole = counted-all rows t is_live valid none is refl in
    let few = root-few rows is_live is_live-le valid in
    let root = root-total rows is_live refl valid in
    record {
      states = is.states;
      each = λ s h. count-all rows t s valid none is h;
      all = sum-live t.counts is.none ∙ ap (sum_to (by t.counts is_live)) is.states ∙ whole ∙ sym live;
      few = omega arith;
    }
