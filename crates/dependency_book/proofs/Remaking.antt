-- Rows that were made anew from keys.
use Rattle.dependency_book.proofs.Names.{Bool, Empty, List, None, Option, Row, RowState, Some, [], ap, arith, by_key, if◌then◌else◌, kept_of, keys, nat_tests, refl, remade_rows, row_at, state_at, ℕ, ◌∷◌, ◌≡◌}

-- what stood at a key that is there, if it stays
abbrev pub if_stays : {K V : Type 0} → (K → Bool) → Option K → RowState V → RowState V
if_stays stays None s = Empty
if_stays stays (Some k) s = if stays k then s else Empty

-- what stands for a key, if there is one, by what stood in an old row
abbrev pub kept_for : {K V : Type 0} → (K → K → Bool) → Option (Row K V) → Option K → RowState V
kept_for stays old None = Empty
kept_for stays old (Some k) = kept_of (stays k) old

pub keys-remade : {K V : Type 0} (rank : K → ℕ) (stays : K → K → Bool) (old : List (Row K V)) (ks : List K)
    → keys (remade_rows rank stays old ks) ≡ ks
keys-remade rank stays old [] = refl
keys-remade rank stays old (k ∷ ks) = ap (λ js. k ∷ js) (keys-remade rank stays old ks)

module _ {K V : Type 0} (rank : K → ℕ) where
  pub state_at-remade : (stays : K → K → Bool) (old : List (Row K V)) (n : ℕ) (ks : List K)
      → state_at rank n (remade_rows rank stays old ks)
      ≡ kept_for stays (row_at (by_key rank) n old) (row_at rank n ks)
  state_at-remade stays old n [] = refl
  state_at-remade stays old n (k ∷ ks) = grind (arith, nat_tests, state_at-remade stays old n ks)
