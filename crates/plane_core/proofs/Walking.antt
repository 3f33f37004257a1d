-- A walk over rows, step by step.
use Rattle.plane_core.proofs.Names.{Has, IsNumber, List, None, Numbered, Option, Remembers, Some, Square, SquareRow, Walks, arith, cases_eq, get_or, get_or-set_other, get_or-set_same, inl, inr, kid, length, length-set, no_row, number_row}
use Rattle.plane_core.proofs.Names.{row_at, same_Some, square_in, subst, suc, sym, zero, ℕ, ◌-◌, ◌<◌, ◌^◌, ◌∙◌, ◌≡◌}
use Rattle.std.proofs.Math.ListN.{set}
use Rattle.plane_core.proofs.Shared.Numbering.{Grows, Has-grown, Has-again, number_row-grows}
use Rattle.plane_core.proofs.Shared.Sound.{IsNumber-level, square_in-number, row_of, walks-quadrants}

-- a row whose number is remembered isn't walked
pub walks-known : (rows done : List SquareRow) (numbers : List (Option ℕ)) (k n m : ℕ) → 0 < k → 0 < n → IsNumber rows k n → Remembers rows done numbers → get_or numbers (n - 1) None ≡ Some m
    → Walks k (square_in rows k n) done done m
walks-known rows done numbers zero n m hk hn h r e = absurd (omega (arith, hk))
walks-known rows done numbers (suc k) n m hk hn h r e = grind (arith, IsNumber-level)

-- the walk of a square, by those of its quadrants
pub walks-four : (rows d0 d1 d2 d3 d4 d5 : List SquareRow) (k n a b c d m : ℕ) → 0 < k → 0 < n
    → Walks (k - 1) (square_in rows (k - 1) (kid (row_at rows n) 0)) d0 d1 a
    → Walks (k - 1) (square_in rows (k - 1) (kid (row_at rows n) 1)) d1 d2 b
    → Walks (k - 1) (square_in rows (k - 1) (kid (row_at rows n) 2)) d2 d3 c
    → Walks (k - 1) (square_in rows (k - 1) (kid (row_at rows n) 3)) d3 d4 d
    → (number_row (row_of k a b c d) d4).rows ≡ d5 → (number_row (row_of k a b c d) d4).number ≡ m → Walks k (square_in rows k n) d0 d5 m
walks-four rows d0 d1 d2 d3 d4 d5 k n a b c d m hk hn ha hb hc hd hr hm =
    let up : suc (k - 1) ≡ k = omega arith in
    let P : ℕ → Type 0 = λ j. (number_row (row_of j a b c d) d4).rows ≡ d5 →
    (number_row (row_of j a b c d) d4).number ≡ m → Walks j (square_in rows j n) d0 d5 m in
    let here : P (suc (k - 1)) = λ hr hm.
    subst (λ (t : Square). Walks (suc (k - 1)) t d0 d5 m) (sym (square_in-number rows (k - 1) n hn))
    (walks-quadrants (k - 1) _ _ _ _ d0 d1 d2 d3 d4 d5 a b c d m ha hb hc hd hr hm) in
    subst P up here hr hm

-- one more row is remembered
pub remembers-more : (rows d0 d4 d5 : List SquareRow) (numbers : List (Option ℕ)) (k n m : ℕ) → 0 < k → 0 < n → IsNumber rows k n → Remembers rows d4 numbers → Grows d4 d5 → length d5 < 2 ^ 32 → Walks k (square_in rows k n) d0 d5 m
    → Remembers rows d5 (set numbers (n - 1) (Some m))
remembers-more rows d0 d4 d5 numbers zero n m hk hn h r g few walks = absurd (omega (arith, hk))
remembers-more rows d0 d4 d5 numbers (suc k) n m hk hn h r g few walks =
    let at = IsNumber-level rows k n h hn in
    let has : Has (suc k) (square_in rows (suc k) n) d5 m = subst (λ (z : Numbered). Has (suc k) (square_in rows (suc k) n) z.rows z.number) walks (Has-again (suc k) (square_in rows (suc k) n) d0) in
    record {
      few = few;
      count = length-set numbers (n - 1) (Some m) ∙ r.count;
      each = λ i p lt e. elim (cases_eq i (n - 1)) [
        | inl same ↦ grind (arith, same_Some, get_or-set_same)
        | inr other ↦
            Has-grown (get_or rows i no_row).level (square_in rows (get_or rows i no_row).level (suc i)) d4 d5 p g (r.each i p lt (sym (get_or-set_other numbers (n - 1) i (Some m) None other) ∙ e))
      ];
    }

-- a row that is completed comes behind the others
pub grows-complete : (row : SquareRow) (old new : List SquareRow) → (number_row row old).rows ≡ new → Grows old new
grows-complete row old new e = subst (Grows old) e (number_row-grows row old)
