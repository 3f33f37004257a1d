-- Rising numbers stand once.
use Rattle.std.proofs.Common.{◌≡◌, ℕ, ◌+◌, ◌<◌, ◌≤◌, ◌==◌, cond, Bool, true, false, List, [], ◌∷◌, ◌++◌, refl, arith}
use Rattle.std.specs.Prelude.{sum_by}
use Rattle.std.proofs.lemmas.Bool.Decides.{nat_tests}
use Rattle.std.proofs.lemmas.List.Sums.{sum_by-cons}
use Rattle.job_queue.specs.declared.rule.Slip.{Slip}
use Rattle.job_queue.specs.Slips.{AreAmong, NoneTwice, RisesFrom, floor_from}

-- 1 for the slips of one number, 0 for the others
abbrev number_is : ℕ → Slip → ℕ
number_is k slip = cond (slip.number == k) 1 0

-- a number below the first stands nowhere
none_below : (n k : ℕ) (xs : List Slip) → RisesFrom n xs → k < n → sum_by (number_is k) xs ≡ 0
none_below n k [] r lt = refl
none_below n k (x ∷ xs) r lt =
    let low : n ≤ x.number = r.0 in
    let rest : sum_by (number_is k) xs ≡ 0 = none_below (x.number + 1) k xs r.1 (omega arith) in
    let here : number_is k x ≡ 0 = grind (arith, nat_tests) in
    omega (arith, sum_by-cons (number_is k) x xs)

-- no number stands twice in a list whose numbers rise
once : (n k : ℕ) (xs : List Slip) → RisesFrom n xs → sum_by (number_is k) xs ≤ 1
once n k [] r = omega arith
once n k (x ∷ xs) r = cases (once (x.number + 1) k xs r.1) (x.number == k) refl
  where
    cases : sum_by (number_is k) xs ≤ 1 → (b : Bool) → (x.number == k) ≡ b → sum_by (number_is k) (x ∷ xs) ≤ 1
    cases rest' true e =
        let same : x.number ≡ k = grind (arith, nat_tests) in
        let rest : sum_by (number_is k) xs ≡ 0 = none_below (x.number + 1) k xs r.1 (omega arith) in
        let here : number_is k x ≡ 1 = grind (arith, nat_tests) in
        omega (arith, sum_by-cons (number_is k) x xs)
    cases rest' false e =
        let here : number_is k x ≡ 0 = grind (arith, nat_tests) in
        omega (arith, sum_by-cons (number_is k) x xs)

-- nor in one whose slips are among them
pub none_twice : (sent taken : List Slip) → RisesFrom 0 sent → AreAmong taken sent → NoneTwice taken
none_twice sent taken r among k = omega (arith, among (number_is k), once 0 k sent r)

-- a number from the floor on may follow
pub rises_push : (n : ℕ) (xs : List Slip) (x : Slip) → RisesFrom n xs → floor_from n xs ≤ x.number → RisesFrom n (xs ++ x ∷ [])
rises_push n [] x r le = (le, tt)
rises_push n (y ∷ ys) x r le = (r.0, rises_push (y.number + 1) ys x r.1 le)

-- the floor is then just above it
pub floor_push : (n : ℕ) (xs : List Slip) (x : Slip) → floor_from n (xs ++ x ∷ []) ≡ x.number + 1
floor_push n [] x = refl
floor_push n (y ∷ ys) x = floor_push (y.number + 1) ys x
