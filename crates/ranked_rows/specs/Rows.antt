-- Rows by rising rank, as a finite map from ranks.
use Rattle.std.specs.Prelude.{◌≡◌, ℕ, suc, ◌<◌, nat_lt, List, [], ◌∷◌, length, map, find, Option, Some, slice_index_or, if◌then◌else◌, ◌==◌}

-- the row of a rank, if there is one
abbrev pub row_at : {T : Type 0} → (T → ℕ) → ℕ → List T → Option T
row_at rank n rows = find (λ r. rank r == n) rows

-- it stands at this place
abbrev pub IsAt : {T : Type 0} → (T → ℕ) → ℕ → List T → ℕ → Type 0
IsAt {T} rank n rows place =
    (place < length rows) × ((d : T) → row_at rank n rows ≡ Some (slice_index_or rows place d))

-- how many rows stand before the first whose rank isn't below
abbrev pub place_in : {T : Type 0} → (T → ℕ) → ℕ → List T → ℕ
place_in rank n [] = 0
place_in rank n (r ∷ rs) = if nat_lt (rank r) n then suc (place_in rank n rs) else 0

-- the rows from the first on whose rank isn't below
abbrev pub rows_from : {T : Type 0} → (T → ℕ) → ℕ → List T → List T
rows_from rank n [] = []
rows_from rank n (r ∷ rs) = if nat_lt (rank r) n then rows_from rank n rs else r ∷ rs

-- the row of each key, made of the key and of the old row of its rank, if there is one
abbrev pub remade : {K T : Type 0} →
    (K → ℕ) → (T → ℕ) → (K → Option T → T) → List T → List K → List T
remade key_rank rank row old keys = map (λ k. row k (row_at rank (key_rank k) old)) keys
