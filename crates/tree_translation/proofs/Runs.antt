-- Runs of equal numbers.
use Rattle.tree_translation.proofs.Names.{Bool, Decides-and, Decides-eqb, Decides-like, List, [], ap, append-nil, append_assoc, arith, bytes_eq-Decides, false, keeps_runs, length, nat_tests, refl, replicate, replicate_more, runs_from}
use Rattle.tree_translation.proofs.Names.{same_from_decides, slice_eq-Decides, spread_from, sym, true, ℕ, ◌&&◌, ◌*◌, ◌++◌, ◌+◌, ◌-◌, ◌<◌, ◌==◌, ◌∙◌, ◌∷◌, ◌≡◌, ◌≤◌}
use Rattle.std.specs.Bool.{Decides}
use Rattle.std.specs.Cmp.Lexicographic.{pointwise}
use Rattle.std.specs.Str.{bytes_eq}
use Rattle.tree_translation.specs.declared.packed.Run.{Run}

-- numbers from a place on come back from their runs, with more of the first where one begins earlier
spread-runs : (from place n : ℕ) (numbers : List ℕ) → from ≤ place → spread_from from (runs_from place (n ∷ numbers)) ≡ replicate (place - from) n ++ n ∷ numbers
spread-runs from place n [] before =
    let more : place + 1 - from ≡ place - from + 1 = omega arith in
    rw (more, ← replicate_more (place - from) n) (append-nil _)
spread-runs from place n (m ∷ numbers) before =
    let more : place + 1 - from ≡ place - from + 1 = omega arith in
    let none : place + 1 - (place + 1) ≡ 0 = omega arith in
    grind (
      arith,
      spread-runs from (place + 1) m numbers (omega arith),
      spread-runs (place + 1) (place + 1) m numbers (omega arith),
      more,
      none,
      replicate_more (place - from) n,
      append_assoc (replicate (place - from) n) (n ∷ []) (m ∷ numbers),
    )

-- numbers come back from their runs
pub spread-runs_from : (numbers : List ℕ) → spread_from 0 (runs_from 0 numbers) ≡ numbers
spread-runs_from [] = refl
spread-runs_from (n ∷ numbers) = spread-runs 0 0 n numbers (omega arith)

-- what runs of numbers are that are fewer than half as many
pub record AreFewRuns (numbers : List ℕ) (runs : List Run) : Type 0 where
  pub spread : spread_from 0 runs ≡ numbers
  pub same : runs ≡ runs_from 0 (spread_from 0 runs)
  pub kept : keeps_runs (spread_from 0 runs) ≡ true

pub few-runs : (numbers : List ℕ) (runs : List Run) → runs ≡ runs_from 0 numbers → 2 * length runs < length numbers → AreFewRuns numbers runs
few-runs numbers runs are few =
    let back : spread_from 0 runs ≡ numbers = rw are (spread-runs_from numbers) in
    record { spread = back; same = rw back are; kept = rw (back, ← are) (grind (arith, nat_tests, few)) }

pub many-runs : (numbers : List ℕ) (runs : List Run) → runs ≡ runs_from 0 numbers → length numbers ≤ 2 * length runs → keeps_runs numbers ≡ false
many-runs numbers runs are many = rw (← are) (grind (arith, nat_tests, many))

-- whether two runs are the same
abbrev pub same_run : Run → Run → Bool
same_run a b = (a.number == b.number) && (a.until == b.until)

run-same : (n m u v : ℕ) → n ≡ m → u ≡ v → ◌≡◌ {A = Run} (record { number = n; until = u }) (record { number = m; until = v })
run-same n m u v numbers untils = rw (numbers, untils) refl

run-Decides : (a b : Run) → Decides (same_run a b) (a ≡ b)
run-Decides a b =
    Decides-like (same_run a b) (λ h. run-same a.number b.number a.until b.until h.0 h.1) (λ e. (ap (λ (r : Run). r.number) e, ap (λ (r : Run). r.until) e))
    (Decides-and (a.number == b.number) (a.until == b.until) (Decides-eqb a.number b.number) (Decides-eqb a.until b.until))

-- runs that are those of their numbers are the same exactly where the numbers are
pub same-runs : (runs others : List Run) (r : Bool) → r ≡ pointwise same_run runs others → runs ≡ runs_from 0 (spread_from 0 runs) → others ≡ runs_from 0 (spread_from 0 others)
    → r ≡ bytes_eq (spread_from 0 runs) (spread_from 0 others)
same-runs runs others r e is other =
    same_from_decides r (bytes_eq (spread_from 0 runs) (spread_from 0 others))
    (Decides-like r (λ same. ap (spread_from 0) same) (λ same. is ∙ ap (runs_from 0) same ∙ sym other) (slice_eq-Decides run-Decides runs others r e))
    (bytes_eq-Decides (spread_from 0 runs) (spread_from 0 others))
