-- What is felt, going back from a branch to its parent.
use Rattle.schedule.proofs.Names.{Branch, List, arith, false, fork_of, nat_lt, nat_tests, parent_of, refl, suc, zero, ℕ, ◌&&◌, ◌+◌, ◌==◌, ◌≡◌, ◌≤◌}
use Rattle.schedule.specs.Evolution.{is_felt}
use Rattle.schedule.proofs.Shared.Arrivals.{ParentsComeBefore}

-- a bound on the number of branches back to branch 0 is as good as any other
pub felt-enough : (branches : List Branch) → ParentsComeBefore branches → (n m b g c k : ℕ) → b ≤ n → b ≤ m
    → is_felt branches n b g c k ≡ is_felt branches m b g c k
unfolding is_felt
felt-enough branches parents zero zero b g c k low few = refl
felt-enough branches parents zero (suc m) b g c k low few = grind (arith, nat_tests)
felt-enough branches parents (suc n) zero b g c k low few = grind (arith, nat_tests)
felt-enough branches parents (suc n) (suc m) b g c k low few =
    let before = parents b in
    let rest = felt-enough branches parents n m (parent_of branches b) (fork_of branches b + 1) c k in
    grind (arith, nat_tests, before, rest)

-- another branch but 0 feels what its parent does after its fork
pub felt-back : (branches : List Branch) → ParentsComeBefore branches → (b g c k : ℕ) → (b == c) ≡ false
    → (b == 0) ≡ false → is_felt branches b b g c k ≡ is_felt branches (parent_of branches b) (parent_of branches b)
    (fork_of branches b + 1) c k
unfolding is_felt
felt-back branches parents zero g c k other above = absurd (grind (arith, nat_tests))
felt-back branches parents (suc n) g c k other above =
    let before = parents (suc n) (omega arith) in
    let same = felt-enough branches parents n (parent_of branches (suc n)) (parent_of branches (suc n)) in
    grind (arith, same)

-- the branch itself feels what is laid before, and branch 0 no other
pub felt-here : (branches : List Branch) (b g c k : ℕ) → ((b == c) ≡ false → b ≡ 0)
    → is_felt branches b b g c k ≡ (b == c && nat_lt k g)
unfolding is_felt
felt-here branches zero g c k last = refl
felt-here branches (suc n) g c k last = grind (arith, nat_tests)

-- whether another branch feels it is the same for all its generations
pub felt-apart : (branches : List Branch) (n b g h c k : ℕ) → (b == c) ≡ false
    → is_felt branches n b g c k ≡ is_felt branches n b h c k
unfolding is_felt
felt-apart branches zero b g h c k other = grind arith
felt-apart branches (suc n) b g h c k other = grind arith
