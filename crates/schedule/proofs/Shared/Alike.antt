-- What documents share whose interventions lay on what arrives to equal worlds.
use Rattle.schedule.proofs.Names.{AllByRecursion, Branch, IfSome, IsSound, List, None, Plan, Rule, Some, World, [], ap, arith, arrival, branch_id, cells_at, element_at, fork_of, history_of, nat_tests, option_map_or, parent_of, reach, true}
use Rattle.schedule.proofs.Names.{ℕ, ⊤, ◌==◌, ◌∙◌, ◌∷◌, ◌≡◌, ◌≤◌}
use Rattle.schedule.specs.Alike.{LayAlike, LayAlikeWithin}
use Rattle.schedule.proofs.Shared.Reach.{reach-greatest}
use Rattle.schedule.proofs.Shared.Branches.{element_at-is, fork_of-zero, parents_before, forks_rise}
use Rattle.schedule.proofs.Shared.Arrivals.{arrive-alike}

-- what arrives, by a document of the same rule, start and branches
same-lines : (p q : Plan) (b g : ℕ) → p.rule ≡ q.rule → p.start ≡ q.start → p.branches ≡ q.branches
    → arrival (record q { rule = p.rule; start = p.start; branches = p.branches }) b g ≡ arrival q b g
same-lines p q b g rule start branches =
    ap (λ (r : Rule). arrival (record q { rule = r; start = p.start; branches = p.branches }) b g) rule
    ∙ ap (λ (w : World). arrival (record q { start = w; branches = p.branches }) b g) start
    ∙ ap (λ (bs : List Branch). arrival (record q { branches = bs }) b g) branches

all-numbers : {X : Type 0} (P : ℕ → X → Type 0) (xs : List X) → ((n : ℕ) → AllByRecursion (P n) xs)
    → AllByRecursion (λ x. (n : ℕ) → P n x) xs
all-numbers P [] h = tt
all-numbers P (x ∷ xs) h = ((λ n. (h n).0), all-numbers P xs (λ n. (h n).1))

-- a fork is reached in the parent
forks_reached : (p : Plan) (b : ℕ) → fork_of p.branches b ≤ reach p (parent_of p.branches b)
forks_reached p b =
    let Reaches : Branch → Type 0 = λ x. (n : ℕ) → (x.parent == n) ≡ true → x.fork ≤ reach p n in
    elim (element_at branch_id p.branches b)
    as (λ o. IfSome o (λ (x : Branch). (x.id ≡ b) × ((n : ℕ) → (x.parent == n) ≡ true → x.fork ≤ reach p n))
    → option_map_or (λ (x : Branch). x.fork) o 0 ≤ reach p (option_map_or (λ (x : Branch). x.parent) o 0)) [
      | None ↦ λ _. omega arith
      | Some x ↦ λ k. k.1 x.parent (grind (arith, nat_tests))
    ] (element_at-is branch_id Reaches p.branches b
    (all-numbers (λ n (x : Branch). (x.parent == n) ≡ true → x.fork ≤ reach p n) p.branches
    (λ n. (reach-greatest p n).forks)))

-- the same worlds arrive as far as the branches reach
pub arrival-within : (p q : Plan) (b g : ℕ) → IsSound p → LayAlikeWithin p q → g ≤ reach p b
    → arrival p b g ≡ arrival q b g
arrival-within p q b g sound alike low =
    let forked = sound.branches_sound.forked in
    arrive-alike (history_of p) (cells_at q.interventions) (λ m k. k ≤ reach p m) (λ m k. k ≤ reach p m)
    (parents_before p.branches forked)
    (record {
      earlier = λ m k l le low. omega (arith, le, low);
      fork = λ m k _ _. forks_reached p m;
      arrives = λ m k low. low;
    })
    (fork_of-zero p.branches forked) (forks_rise p.branches forked) alike.lists b b g (omega arith) low
    ∙ same-lines p q b g alike.rule alike.start alike.branches

-- the same worlds arrive at each generation of each branch
pub arrival-alike : (p q : Plan) (b g : ℕ) → IsSound p → LayAlike p q → arrival p b g ≡ arrival q b g
arrival-alike p q b g sound alike =
    let forked = sound.branches_sound.forked in
    arrive-alike (history_of p) (cells_at q.interventions) (λ m k. ⊤) (λ m k. ⊤) (parents_before p.branches forked)
    (record { earlier = λ m k l _ _. tt; fork = λ m k _ _. tt; arrives = λ m k _. tt })
    (fork_of-zero p.branches forked) (forks_rise p.branches forked) (λ m k late _. alike.lists m k late) b b g
    (omega arith) tt
    ∙ same-lines p q b g alike.rule alike.start alike.branches
