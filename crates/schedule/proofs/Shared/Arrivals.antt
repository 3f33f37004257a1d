-- What arrives at the generations of branches, by the branch before and the generation before.
use Rattle.schedule.proofs.Names.{Bool, Branch, CellSet, Evolution, List, World, [], ap, arith, arrive-gap, arrive-zero, branch_id, cond-false, element_at, false, fork_of, lay, nat_le, nat_lt, nat_tests, parent_of, refl, step, subst, suc}
use Rattle.schedule.proofs.Names.{sym, zero, ℕ, ◌&&◌, ◌+◌, ◌-◌, ◌<◌, ◌==◌, ◌∙◌, ◌≡◌, ◌≤◌}
use Rattle.worlds.specs.Iterate.{iterate}
use Rattle.worlds.specs.Arrival as line
use Rattle.schedule.specs.Evolution.{arrive, is_felt}

-- each parent has a lesser id
abbrev pub ParentsComeBefore : List Branch → Type 0
ParentsComeBefore branches = (b : ℕ) → 0 < b → parent_of branches b < b

-- what leaves the parent of a branch at its fork
abbrev left : Evolution → ℕ → ℕ → World
left h n b = lay (h.cells (parent_of h.branches b) (fork_of h.branches b))
    (arrive h n (parent_of h.branches b) (fork_of h.branches b))

above_zero : (n : ℕ) → (suc n == 0) ≡ false
above_zero n = grind (arith, nat_tests)

-- what arrives in branch 0
pub arrive-root : (h : Evolution) (n g : ℕ) → arrive h n 0 g ≡ line.arrive h.next (h.cells 0) h.start g
unfolding arrive
arrive-root h zero g = refl
arrive-root h (suc n) g = refl

-- what arrives in another
pub arrive-branch : (h : Evolution) (n b g : ℕ) → (b == 0) ≡ false
    → arrive h (suc n) b g ≡ line.arrive h.next (λ k. h.cells b (fork_of h.branches b + k)) (left h n b)
    (g - fork_of h.branches b)
unfolding arrive
arrive-branch h n b g other = cond-false (b == 0) _ _ other

-- a bound on the number of branches back to branch 0 is as good as any other
pub arrive-enough : (h : Evolution) → ParentsComeBefore h.branches → (n m b g : ℕ) → b ≤ n → b ≤ m
    → arrive h n b g ≡ arrive h m b g
unfolding arrive
arrive-enough h parents zero zero b g low few = refl
arrive-enough h parents zero (suc m) b g low few = grind (arith, nat_tests)
arrive-enough h parents (suc n) zero b g low few = grind (arith, nat_tests)
arrive-enough h parents (suc n) (suc m) b g low few =
    let before = parents b in
    let rest = arrive-enough h parents n m (parent_of h.branches b) (fork_of h.branches b) in
    grind (arith, nat_tests, before, rest)

-- at its fork a branch has what leaves its parent
pub arrive-fork : (h : Evolution) → ParentsComeBefore h.branches → (b : ℕ) → 0 < b
    → arrive h b b (fork_of h.branches b) ≡ lay (h.cells (parent_of h.branches b) (fork_of h.branches b))
    (arrive h (parent_of h.branches b) (parent_of h.branches b) (fork_of h.branches b))
arrive-fork h parents zero above = absurd (omega (arith, above))
arrive-fork h parents (suc n) above =
    let b = suc n in
    let q = parent_of h.branches b in
    let f = fork_of h.branches b in
    let before : q < b = parents b above in
    let none : f - f ≡ 0 = omega arith in
    arrive-branch h n b f (above_zero n) ∙ ap (line.arrive h.next (λ k. h.cells b (f + k)) (left h n b)) none
    ∙ arrive-zero h.next (λ k. h.cells b (f + k)) (left h n b)
    ∙ ap (lay (h.cells q f)) (arrive-enough h parents n q q f (omega (arith, before)) (omega arith))

-- where a branch lays nothing within a gap, the end is that many steps from what left the beginning
pub arrive-undisturbed : (h : Evolution) (b g n : ℕ) → fork_of h.branches b ≤ g
    → ((k : ℕ) → g < k → k < g + suc n → h.cells b k ≡ [])
    → arrive h b b (g + suc n) ≡ iterate (suc n) (step h.next) (lay (h.cells b g) (arrive h b b g))
arrive-undisturbed h zero g n late quiet =
    arrive-root h 0 (g + suc n) ∙ arrive-gap h.next (h.cells 0) h.start g n quiet
    ∙ ap (λ w. iterate (suc n) (step h.next) (lay (h.cells 0 g) w)) (sym (arrive-root h 0 g))
arrive-undisturbed h (suc m) g n late quiet =
    let b = suc m in
    let f = fork_of h.branches b in
    let other : (b == 0) ≡ false = above_zero m in
    let own : ℕ → List CellSet = λ k. h.cells b (f + k) in
    let more : (g + suc n) - f ≡ (g - f) + suc n = omega (arith, late) in
    let back : f + (g - f) ≡ g = omega (arith, late) in
    arrive-branch h m b (g + suc n) other ∙ ap (line.arrive h.next own (left h m b)) more
    ∙ arrive-gap h.next own (left h m b) (g - f) n
    (λ k low high. quiet (f + k) (omega (arith, low, late)) (omega (arith, high, late)))
    ∙ ap (λ k. iterate (suc n) (step h.next) (lay (h.cells b k) (line.arrive h.next own (left h m b) (g - f)))) back
    ∙ ap (λ w. iterate (suc n) (step h.next) (lay (h.cells b g) w)) (sym (arrive-branch h m b g other))

-- what isn't felt at a generation isn't at an earlier one
pub felt-earlier : (branches : List Branch) (n b g later c k : ℕ) → g ≤ later → is_felt branches n b later c k ≡ false
    → is_felt branches n b g c k ≡ false
unfolding is_felt
felt-earlier branches zero b g later c k le h = grind (arith, nat_tests)
felt-earlier branches (suc n) b g later c k le h = grind (arith, nat_tests)

-- and what is laid in the branch itself isn't laid before
pub felt-own : (branches : List Branch) (n b g c k : ℕ) → is_felt branches n b g c k ≡ false
    → (b == c && nat_lt k g) ≡ false
unfolding is_felt
felt-own branches zero b g c k h = h
felt-own branches (suc n) b g c k h = grind arith

-- a branch doesn't feel those of greater ids
pub felt-above : (branches : List Branch) → ParentsComeBefore branches → (n b g c k : ℕ) → b < c
    → is_felt branches n b g c k ≡ false
unfolding is_felt
felt-above branches parents zero b g c k low = grind (arith, nat_tests)
felt-above branches parents (suc n) b g c k low =
    let before = parents b in
    let rest = felt-above branches parents n (parent_of branches b) (fork_of branches b + 1) c k in
    grind (arith, nat_tests, before, rest)

before_it : (t : Bool) (k g j : ℕ) → (t && nat_lt k g) ≡ false → j < g → (t && nat_le k j) ≡ false
before_it t k g j h low = grind (arith, nat_tests)

-- cells of a generation whose next doesn't feel it are laid elsewhere
pub unfelt_cells : (branches : List Branch) (n b g c k : ℕ) → is_felt branches n b (g + 1) c k ≡ false
    → (b == c && nat_le k g) ≡ false
unfelt_cells branches n b g c k h = before_it (b == c) k (g + 1) g (felt-own branches n b (g + 1) c k h) (omega arith)

-- a line whose cells give each generation before another the same world
line-alike : (next : List ℕ → ℕ) (cells others : ℕ → List CellSet) (w : World) (g : ℕ)
    → ((k : ℕ) → k < g → lay (cells k) (line.arrive next cells w k) ≡ lay (others k) (line.arrive next cells w k))
    → line.arrive next cells w g ≡ line.arrive next others w g
unfolding line.arrive
line-alike next cells others w zero same = refl
line-alike next cells others w (suc g) same =
    ap (step next) (same g (omega arith) ∙ ap (lay (others g))
    (line-alike next cells others w g (λ k low. same k (omega (arith, low)))))

-- some generations of branches count, as they arrive and as they are left: with one that arrives all that are left
-- before it, and with one of a branch the fork in its parent
pub record AreEarlier (branches : List Branch) (Counts Leaves : ℕ → ℕ → Type 0) : Type 0 where
  pub earlier : (b g k : ℕ) → k < g → Counts b g → Leaves b k
  pub fork : (b g : ℕ) → 0 < b → Counts b g → Leaves (parent_of branches b) (fork_of branches b)
  pub arrives : (b g : ℕ) → Leaves b g → Counts b g

-- cells that give each generation that counts the same world don't matter for those
pub arrive-alike : (h : Evolution) (others : ℕ → ℕ → List CellSet) (Counts Leaves : ℕ → ℕ → Type 0)
    → ParentsComeBefore h.branches → AreEarlier h.branches Counts Leaves → fork_of h.branches 0 ≡ 0
    → ((b : ℕ) → fork_of h.branches (parent_of h.branches b) ≤ fork_of h.branches b)
    → ((b g : ℕ) → fork_of h.branches b ≤ g → Leaves b g
    → lay (h.cells b g) (arrive h b b g) ≡ lay (others b g) (arrive h b b g))
    → (n b g : ℕ) → b ≤ n → Counts b g → arrive h n b g ≡ arrive (record h { cells = others }) n b g
arrive-alike h others Counts Leaves parents before root rise same n zero g le counts =
    let o : Evolution = record h { cells = others } in
    arrive-root h n g
    ∙ line-alike h.next (h.cells 0) (others 0) h.start g
    (λ k low. subst (λ w. lay (h.cells 0 k) w ≡ lay (others 0 k) w) (arrive-root h 0 k)
    (same 0 k (omega (arith, root)) (before.earlier 0 g k low counts)))
    ∙ sym (arrive-root o n g)
arrive-alike h others Counts Leaves parents before root rise same zero (suc b) g le counts = absurd (omega (arith, le))
arrive-alike h others Counts Leaves parents before root rise same (suc n) (suc m) g le counts =
    let o : Evolution = record h { cells = others } in
    let b = suc m in
    let q = parent_of h.branches b in
    let f = fork_of h.branches b in
    let other : (b == 0) ≡ false = above_zero m in
    let lesser : q < b = parents b (omega arith) in
    let few : q ≤ n = omega (arith, lesser, le) in
    let at = before.fork b g (omega arith) counts in
    let own : ℕ → List CellSet = λ k. h.cells b (f + k) in
    let theirs : ℕ → List CellSet = λ k. others b (f + k) in
    let begins : left h n b ≡ left o n b =
    subst (λ w. lay (h.cells q f) w ≡ lay (others q f) w) (arrive-enough h parents q n q f (omega arith) few)
    (same q f (rise b) at)
    ∙ ap (lay (others q f)) (arrive-alike h others Counts Leaves parents before root rise same n q f few (before.arrives q f at)) in
    let reached : (k : ℕ) → arrive h b b (f + k) ≡ line.arrive h.next own (left h n b) k = λ k.
    arrive-enough h parents b (suc n) b (f + k) (omega arith) le ∙ arrive-branch h n b (f + k) other
    ∙ (let back : (f + k) - f ≡ k = omega arith in ap (line.arrive h.next own (left h n b)) back) in
    arrive-branch h n b g other
    ∙ line-alike h.next own theirs (left h n b) (g - f)
    (λ k low. subst (λ w. lay (own k) w ≡ lay (theirs k) w) (reached k)
    (same b (f + k) (omega arith) (before.earlier b g (f + k) (omega (arith, low)) counts)))
    ∙ ap (λ w. line.arrive h.next theirs w (g - f)) begins
    ∙ sym (arrive-branch o n b g other)

-- what another list of branches says of the branches on the way back alone matters
pub arrive-elsewhere : (h : Evolution) (others : List Branch) (Stays : ℕ → Type 0)
    → ((b : ℕ) → Stays b → Stays (parent_of h.branches b))
    → ((b : ℕ) → Stays b → element_at branch_id others b ≡ element_at branch_id h.branches b)
    → (n b g : ℕ) → Stays b → arrive h n b g ≡ arrive (record h { branches = others }) n b g
unfolding arrive
arrive-elsewhere h others Stays back same zero b g stays = refl
arrive-elsewhere h others Stays back same (suc n) b g stays =
    rw (
      same b stays,
      arrive-elsewhere h others Stays back same n (parent_of h.branches b) (fork_of h.branches b)
          (back b stays),
    ) refl
