-- Rows by rising ranks of their keys: what stands at a rank, where its row is, and what is put there.
use Rattle.dependency_book.proofs.Names.{AllByRecursion, Bool, Empty, IdsRise, IsRanked, List, None, Option, Row, RowState, Some, Stands, [], above_at, arith, by_key, count_by, false, get_or, is_empty, is_some, keys, length, length-map}
use Rattle.dependency_book.proofs.Names.{list_any, missing, nat_tests, option_map, place_in, put, refl, row_at, row_there, set, stands, state_at, suc, sum_by-cons, true, zero, ℕ, ◌+◌, ◌<◌, ◌==◌, ◌∷◌, ◌≡◌, ◌≢◌}

-- whether a key has a rank
abbrev pub has : {K : Type 0} → (K → ℕ) → ℕ → List K → Bool
has rank n ks = list_any (λ k. rank k == n) ks

-- rows rise as their keys do

pub all_keys : {K V : Type 0} (P : K → Type 0) (rows : List (Row K V)) → AllByRecursion P (keys rows)
    → AllByRecursion (λ (r : Row K V). P r.key) rows
all_keys P [] all = tt
all_keys P (r ∷ rs) all = (all.0, all_keys P rs all.1)

pub ranked_by : {K V : Type 0} (rank : K → ℕ) (rows : List (Row K V)) → IdsRise rank (keys rows)
    → IsRanked rank rows
ranked_by rank [] rise = tt
ranked_by rank (r ∷ rs) rise = (all_keys _ rs rise.0, ranked_by rank rs rise.1)

-- what holds at each place holds of each element
pub all_at : {X : Type 0} (P : X → Type 0) (xs : List X)
    → ((k : ℕ) (d : X) → k < length xs → P (get_or xs k d))
    → AllByRecursion P xs
all_at P [] f = tt
all_at P (x ∷ xs) f = (f 0 x (omega arith), all_at P xs (λ k d low. f (suc k) d (omega (arith, low))))

-- what stands in a row, if there is one
abbrev pub state_in : {K V : Type 0} → Option (Row K V) → RowState V
state_in None = Empty
state_in (Some r) = r.state

-- in how many rows nothing stands
abbrev pub empties : {K V : Type 0} → List (Row K V) → ℕ
empties rows = count_by (λ r. is_empty r.state) rows

module _ {K V : Type 0} (rank : K → ℕ) (n : ℕ) where
  -- what stands at a rank stands in its row

  pub state_row : (rows : List (Row K V)) → state_at rank n rows ≡ state_in (row_at (by_key rank) n rows)
  state_row [] = refl
  state_row (r ∷ rs) = grind (arith, nat_tests, state_row rs)

  pub key_row : (rows : List (Row K V))
      → row_at rank n (keys rows) ≡ option_map (λ (r : Row K V). r.key) (row_at (by_key rank) n rows)
  key_row [] = refl
  key_row (r ∷ rs) = grind (arith, nat_tests, key_row rs)

  pub has_row_at : (rows : List (Row K V)) → has rank n (keys rows) ≡ is_some (row_at (by_key rank) n rows)
  has_row_at [] = refl
  has_row_at (r ∷ rs) = grind (arith, nat_tests, has_row_at rs)

  pub state_at-above : (rows : List (Row K V)) → has rank n (keys rows) ≡ false → state_at rank n rows ≡ Empty
  state_at-above [] h = refl
  state_at-above (r ∷ rs) h = grind (arith, nat_tests, state_at-above rs)

  -- where a key has the rank its row stands at its place
  pub has_stands : (rows : List (Row K V)) → IsRanked rank rows → has rank n (keys rows) ≡ true
      → (r : Row K V) × Stands (by_key rank) n rows r
  has_stands rows ranked there = by_row (row_at (by_key rank) n rows) refl
    where
      by_row : (o : Option (Row K V)) → row_at (by_key rank) n rows ≡ o
          → (r : Row K V) × Stands (by_key rank) n rows r
      by_row None is = absurd (let same = has_row_at rows in cc)
      by_row (Some r) is = (r, stands (by_key rank) n rows r ranked is)

  -- a place depends on the keys alone
  pub place_in-keys : (rows : List (Row K V)) → place_in (by_key rank) n rows ≡ place_in rank n (keys rows)
  place_in-keys [] = refl
  place_in-keys (r ∷ rs) = grind (arith, nat_tests, place_in-keys rs)

  -- what is put

  pub keys-put : (s : RowState V) (rows : List (Row K V)) → keys (put rank n s rows) ≡ keys rows
  keys-put s [] = refl
  keys-put s (r ∷ rs) = grind (arith, nat_tests, keys-put s rs)

  pub state_at-put_same : (s : RowState V) (rows : List (Row K V)) → has rank n (keys rows) ≡ true
      → state_at rank n (put rank n s rows) ≡ s
  state_at-put_same s [] there = grind arith
  state_at-put_same s (r ∷ rs) there = grind (arith, nat_tests, state_at-put_same s rs)

  pub state_at-put_other : (m : ℕ) (s : RowState V) (rows : List (Row K V)) → n ≢ m
      → state_at rank m (put rank n s rows) ≡ state_at rank m rows
  state_at-put_other m s [] apart = refl
  state_at-put_other m s (r ∷ rs) apart = grind (arith, nat_tests, state_at-put_other m s rs apart)

  -- it is set in the row that has the rank
  pub put_there : (s : RowState V) (rows : List (Row K V)) (k : ℕ) (d : Row K V) → IsRanked rank rows
      → k < length rows → by_key rank (get_or rows k d) ≡ n
      → set rows k (record { key = (get_or rows k d).key; state = s }) ≡ put rank n s rows
  put_there s [] k d ranked low is = absurd (omega (arith, low))
  put_there s (r ∷ rs) zero d ranked low is = grind (arith, nat_tests)
  put_there s (r ∷ rs) (suc k) d ranked low is =
      grind (
        arith,
        nat_tests,
        above_at (by_key rank) (rank r.key) rs k d ranked.0,
        put_there s rs k d
            ranked.1,
      )

  -- and nowhere where there is none
  pub put_absent : (s : RowState V) (rows : List (Row K V)) → row_at (by_key rank) n rows ≡ None
      → put rank n s rows ≡ rows
  put_absent s [] none = refl
  put_absent s (r ∷ rs) none = grind (arith, nat_tests, put_absent s rs)

  -- rows in which nothing stands, counted
  pub count-put : (s : RowState V) (rows : List (Row K V)) → has rank n (keys rows) ≡ true
      → empties (put rank n s rows) + missing (state_at rank n rows) ≡ empties rows + missing s
  count-put s [] there = grind arith
  count-put s (r ∷ rs) there =
      let none : Row K V → ℕ = λ x. missing x.state in
      let was = sum_by-cons none r rs in
      let hit = sum_by-cons none (record { key = r.key; state = s }) rs in
      let miss = sum_by-cons none r (put rank n s rs) in
      grind (arith, nat_tests, was, hit, miss, count-put s rs)

-- what stands at the rank of a row
pub state_at-row : {K V : Type 0} (rank : K → ℕ) (rows : List (Row K V)) (k : ℕ) (d : Row K V)
    → IsRanked rank rows
    → k < length rows → state_at rank (by_key rank (get_or rows k d)) rows ≡ (get_or rows k d).state
state_at-row rank rows k d ranked low =
    let n = by_key rank (get_or rows k d) in
    grind (arith, state_row rank n rows, row_there (by_key rank) n rows k d ranked low refl)

pub length-keys : {K V : Type 0} (xs ys : List (Row K V)) → keys xs ≡ keys ys → length xs ≡ length ys
length-keys xs ys same = grind (arith, length-map xs (λ r. r.key), length-map ys (λ r. r.key))
