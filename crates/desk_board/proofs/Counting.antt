-- The step that adds a snapshot counts it.
use Rattle.std.proofs.Common.{◌≡◌, ◌≢◌, ℕ, ◌+◌, ◌<◌, ◌==◌, Bool, true, false, List, [], ◌∷◌, ◌++◌, length, refl, ap, sym, subst, arith, inl, length-append, None}
use Rattle.std.proofs.lemmas.List.{append-nil}
use Rattle.std.proofs.lemmas.Bool.Decides.{nat_tests}
use mathlib.Core.List.{IsPrefix}
use prog.Atomic.{either}
use Rattle.logbook.specs.Pages.{Cell, cell, keeps, no_nib, step, Moves, Goes}
use Rattle.desk_board.specs.Picture.{Picture}
use Rattle.desk_board.specs.Log.{IsCountedBook, AddsSnapshot}
use Rattle.desk_board.proofs.Beginnings.{prefix_whole}

abbrev pub shown : List Picture → List Picture
shown log = []

abbrev pub moved : List Picture → List Picture → ℕ → Type 0
moved xs ys n = Unit {0}

adds_goes : (log v : List Picture) (s : Picture) (old : ℕ) → length v ≡ old → IsPrefix v log → (b : Bool) → (length log == old) ≡ b
    → Goes IsCountedBook shown moved 0 (v, (no_nib, None)) (λ n. either (n == old) (old + 1) n) (AddsSnapshot (step 0 old (old + 1) s) (v, (no_nib, None))) ((length log, true) ∷ (0, true) ∷ []) log
adds_goes log v s old len on true is =
    let here : length log ≡ old = grind (arith, nat_tests) in
    let same : v ≡ log = prefix_whole v log on (omega arith) in
    let n : either (length log == old) (old + 1) (length log) ≡ length (log ++ s ∷ []) = rw is (omega (arith, length-append log (s ∷ []))) in
    (keeps, s ∷ [], None, tt, record { words = ap (λ (k : ℕ). (k, true) ∷ (0, true) ∷ []) n }, inl (refl, refl), λ _. ap (λ w. w ++ s ∷ []) (sym same))
adds_goes log v s old len on false is =
    let other : length log ≢ old = grind (arith, nat_tests) in
    let n : either (length log == old) (old + 1) (length log) ≡ length (log ++ []) = rw is (sym (ap length (append-nil log))) in
    (keeps, [], None, tt, record { words = ap (λ (k : ℕ). (k, true) ∷ (0, true) ∷ []) n }, inl (refl, refl), λ same. absurd (other same))

-- whatever the book is, the step adds the snapshot to all that was known, or finds another number
pub adds_moves : (v : List Picture) (s : Picture) (old : ℕ) → length v ≡ old → Moves IsCountedBook shown moved 0 (v, (no_nib, None)) (λ n. either (n == old) (old + 1) n) (AddsSnapshot (step 0 old (old + 1) s) (v, (no_nib, None)))
adds_moves v s old len cs log kept on away =
    let P : List Cell → Type 0 = λ c. (0 < length c) × ((cell c 0).1 ≡ true) × Goes IsCountedBook shown moved 0 (v, (no_nib, None)) (λ n. either (n == old) (old + 1) n) (AddsSnapshot (step 0 old (old + 1) s) (v, (no_nib, None))) c log in
    subst P (sym kept.words) (omega arith, refl, adds_goes log v s old len on (length log == old) refl)
