-- Trimming, a byte at a time.
use Rattle.text_lines.proofs.Names.{AllByRecursion, IsBlank, List, [], ap, append-nil, append_assoc, arith, before_end, cond, false, get_or, is_blank, length, push_not_nil, refl, strip_carriage_return, sym, take, trim, trim_end, true, ℕ}
use Rattle.text_lines.proofs.Names.{◌++◌, ◌-◌, ◌==◌, ◌∙◌, ◌∷◌, ◌≡◌, ◌≢◌, ◌≤◌}
use native.Mathlib.Numerals.{unary_clauses}

pub before_end-more : (x : ℕ) (ys : List ℕ) → ys ≢ [] → before_end x ys ≡ x ∷ ys
before_end-more x [] h = absurd (h refl)
before_end-more x (y ∷ ys) h = refl

pub trim_end-push_blank : (xs : List ℕ) (b : ℕ) → is_blank b ≡ true → trim_end (xs ++ b ∷ []) ≡ trim_end xs
trim_end-push_blank [] b h = rw h refl
trim_end-push_blank (x ∷ xs) b h = ap (before_end x) (trim_end-push_blank xs b h)

pub trim_end-push : (xs : List ℕ) (b : ℕ) → is_blank b ≡ false → trim_end (xs ++ b ∷ []) ≡ xs ++ b ∷ []
trim_end-push [] b h = rw h refl
trim_end-push (x ∷ xs) b h = ap (before_end x) (trim_end-push xs b h) ∙ before_end-more x (xs ++ b ∷ []) (push_not_nil xs b)

-- by the last byte, where there is one
pub trim_end_at : (xs : List ℕ) → 1 ≤ length xs → trim_end xs ≡ cond (is_blank (get_or xs (length xs - 1) 0)) (trim_end (take (length xs - 1) xs)) xs
trim_end_at [] some = absurd (omega arith)
trim_end_at (x ∷ []) some = refl
trim_end_at (x ∷ y ∷ xs) some = simp unary_clauses (grind (arith, simp unary_clauses at (trim_end_at (y ∷ xs) (omega arith))))

pub strip_carriage_return_at : (xs : List ℕ) → 1 ≤ length xs → strip_carriage_return xs ≡ cond (get_or xs (length xs - 1) 0 == 13) (take (length xs - 1) xs) xs
strip_carriage_return_at [] some = absurd (omega arith)
strip_carriage_return_at (x ∷ []) some = refl
strip_carriage_return_at (x ∷ y ∷ xs) some = simp unary_clauses (grind (arith, simp unary_clauses at (strip_carriage_return_at (y ∷ xs) (omega arith))))

-- blanks at either end are trimmed
trim_end-append_blanks : (xs blanks : List ℕ) → AllByRecursion IsBlank blanks → trim_end (xs ++ blanks) ≡ trim_end xs
trim_end-append_blanks xs [] h = ap trim_end (append-nil xs)
trim_end-append_blanks xs (b ∷ bs) h = ap trim_end (sym (append_assoc xs (b ∷ []) bs)) ∙ trim_end-append_blanks (xs ++ b ∷ []) bs h.1 ∙ trim_end-push_blank xs b h.0

pub trim-between_blanks : (front xs back : List ℕ) → AllByRecursion IsBlank front → AllByRecursion IsBlank back → trim (front ++ (xs ++ back)) ≡ trim xs
trim-between_blanks (b ∷ front) xs back h k = rw h.0 (trim-between_blanks front xs back h.1 k)
trim-between_blanks [] (x ∷ xs) back h k = grind (arith, trim-between_blanks [] xs back tt k, trim_end-append_blanks (x ∷ xs) back k)
trim-between_blanks [] [] (b ∷ back) h k = rw k.0 (trim-between_blanks [] [] back tt k.1)
trim-between_blanks [] [] [] h k = refl
