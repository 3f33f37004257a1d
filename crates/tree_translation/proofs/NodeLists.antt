-- Lists, place by place.
use Rattle.tree_translation.proofs.Names.{List, [], ap, arith, cases_eq, cases_lt, drop, get_or-append_right, get_or-replicate, get_or_append_left, get_or_push, inl, inr, length, nil_from_length, replicate, slice_index_or, suc, sym, zero}
use Rattle.tree_translation.proofs.Names.{ℕ, ◌++◌, ◌+◌, ◌-◌, ◌<◌, ◌∷◌, ◌≡◌, ◌≤◌}

-- what holds of each and of one more, holds of each of those with it
pub each-push : {X : Type 0} (d : X) (P : ℕ → X → Type 0) (xs : List X) (x : X) (n : ℕ) → length xs ≡ n → ((k : ℕ) → k < n → P k (slice_index_or xs k d)) → P n x → (k : ℕ) → k < n + 1 → P k (slice_index_or (xs ++ x ∷ []) k d)
each-push d P xs x n count each last k l =
    elim (cases_eq k n) [
      | inl e ↦ rw (e, get_or_push xs x d n count) last
      | inr ne ↦ rw (get_or_append_left xs (x ∷ []) d k (omega (arith, l, ne, count))) (each k (omega (arith, l, ne)))
    ]

-- what holds of each and of one value up to a place, holds of each where they are filled up with it
pub each-filled : {X : Type 0} (d : X) (P : ℕ → X → Type 0) (xs : List X) (x : X) (n m : ℕ) → length xs ≡ n → n ≤ m → ((k : ℕ) → k < n → P k (slice_index_or xs k d)) → ((k : ℕ) → n ≤ k → k < m → P k x)
    → (k : ℕ) → k < m → P k (slice_index_or (xs ++ replicate (m - length xs) x) k d)
each-filled d P xs x n m count less each filled k l =
    elim (cases_lt k n) [
      | inl low ↦ rw (get_or_append_left xs (replicate (m - length xs) x) d k (omega (arith, count, low))) (each k low)
      | inr high ↦
          rw (get_or-append_right xs (replicate (m - length xs) x) n k d count high, get_or-replicate (m - length xs) (k - n) x d (omega (arith, count, high, l)))
          (filled k (omega (arith, high)) l)
    ]

-- so many elements of a list, one by one
abbrev pub firsts : {X : Type 0} → X → ℕ → List X → List X
firsts d zero xs = []
firsts d (suc n) xs = slice_index_or xs 0 d ∷ firsts d n (drop 1 xs)

-- where it has so many, they are the list
pub firsts-all : {X : Type 0} (d : X) (n : ℕ) (xs : List X) → length xs ≡ n → firsts d n xs ≡ xs
firsts-all d zero xs long = sym (nil_from_length xs long)
firsts-all d (suc n) [] long = absurd (omega (arith, long))
firsts-all d (suc n) (x ∷ xs) long = ap (λ ys. x ∷ ys) (firsts-all d n xs (omega (arith, long)))
