-- The places of a grid, and what lasts in the loops over them.
use Rattle.std.proofs.Common.{◌≡◌, ℕ, ◌+◌, ◌*◌, ◌<◌, List, get_or, replicate, ap, ◌∙◌, subst, inl, inr, arith, ◌≤◌}
use Rattle.std.proofs.lemmas.Bool.{cases_lt}
use Rattle.std.proofs.lemmas.List.{get_or-replicate, get_or_past, length-replicate}
use Rattle.bit_blocks.specs.Numbers.{two_of}
use Rattle.bit_blocks.specs.Answers.{Keeps}
use Rattle.bit_blocks.specs.Grids.{column_at, AreLater}

-- no place of an empty grid has a live cell
pub zeros_small : (n place : ℕ) → get_or (replicate n 0) place 0 < 16
zeros_small n place =
    elim (cases_lt place n) [
      | inl there ↦ omega (arith, get_or-replicate {A = ℕ} n place 0 0 there)
      | inr past ↦ omega (arith, get_or_past {X = ℕ} (replicate n 0) place 0 (omega (arith, length-replicate {A = ℕ} n 0)))
    ]

-- some places of a row are a generation later, and the ones before the row stay
pub record RowSoFar {R : Type 0} (meaning : R → List ℕ → ℕ) (state_count asked : R → ℕ) (old new : R) (old_known known : List ℕ) (grid old_next next : List ℕ) (first place left : ℕ) : Type 0 where
  pub keeps : Keeps meaning state_count asked old new old_known known
  pub later : AreLater (meaning old) grid next first place
  pub before : (k : ℕ) → k < first → get_or next k 0 ≡ get_or old_next k 0
  pub left_is : left ≡ column_at grid place

-- some rows are a generation later
pub record RowsSoFar {R : Type 0} (meaning : R → List ℕ → ℕ) (state_count asked : R → ℕ) (old new : R) (old_known known : List ℕ) (grid next : List ℕ) (count row : ℕ) : Type 0 where
  pub keeps : Keeps meaning state_count asked old new old_known known
  pub rows : (k : ℕ) → k < row → AreLater (meaning old) grid next (8 * k) (8 * k + count)

-- one more row is
pub rows_more : (next now : List ℕ → ℕ) (grid old new : List ℕ) (count row : ℕ) → count ≤ 7 → now ≡ next → ((k : ℕ) → k < row → AreLater next grid old (8 * k) (8 * k + count)) →
    ((k : ℕ) → k < 8 * row → get_or new k 0 ≡ get_or old k 0) → AreLater now grid new (8 * row) (8 * row + count) → (k : ℕ) → k < row + 1 → AreLater next grid new (8 * k) (8 * k + count)
rows_more next now grid old new count row few same rows before later k below =
    elim (cases_lt k row) [
      | inl earlier ↦ record { each = λ place from to. ap two_of (before place (omega arith)) ∙ (rows k earlier).each place from to }
      | inr now ↦
          let is : row ≡ k = omega arith in
          let by = subst (λ (rule : List ℕ → ℕ). AreLater rule grid new (8 * row) (8 * row + count)) same later in
          subst (λ (r : ℕ). AreLater next grid new (8 * r) (8 * r + count)) is by
    ]
