-- What the limits of documents say of the worlds on the way from the start.
use Rattle.schedule.proofs.Names.{All, All-from_recursion, AllBelow, AllBelow-arrive, AllBelow-lay, AllByRecursion, AreInside-less, AreNamed, Bool, CanBeLaid, CellSet, HasMargin, HasMargin-arrive, HasMargin-lay, Intervention, IsAllowed}
use Rattle.schedule.proofs.Names.{IsInside-less, IsSound, List, Plan, SetBelow, World, [], acts_at, after, all_append, arith, arrival, cells_at, false, fork_of, history_of, if◌then◌else◌, lay, next_of, own_cells, parent_of, states_of}
use Rattle.schedule.proofs.Names.{subst, suc, true, zero, ℕ, ◌+◌, ◌-◌, ◌==◌, ◌^◌, ◌∷◌, ◌≡◌, ◌≤◌}
use Rattle.worlds.specs.Arrival as line
use Rattle.rule_tree.specs.RuleLaws.{next_of-quiet, next_of-below}
use Rattle.schedule.specs.Evolution.{arrive}
use Rattle.schedule.proofs.Shared.Branches.{forks_near, forks_rise}

own : (P : CellSet → Type 0) (b : Bool) (cs : List CellSet) → AllByRecursion P cs
    → AllByRecursion P (if b then cs else [])
own P b cs h = grind arith

each_at : (P : CellSet → Type 0) (n : ℕ) (is : List Intervention) (b g : ℕ)
    → ((i : Intervention) → IsAllowed n i → AllByRecursion P i.cells) → AllByRecursion (IsAllowed n) is
    → AllByRecursion P (cells_at is b g)
each_at P n [] b g f h = tt
each_at P n (i ∷ is) b g f h = all_append P (own_cells i b g) (cells_at is b g)
    (own P (acts_at i b g) i.cells (f i h.0)) (each_at P n is b g f h.1)

pub AreNamed-at : (p : Plan) (b g : ℕ) → IsSound p → AreNamed (cells_at p.interventions b g)
AreNamed-at p b g sound = each_at _ (states_of p.rule) p.interventions b g
    (λ i k. k.named) sound.interventions_allowed

pub SetBelow-at : (p : Plan) (b g : ℕ) → IsSound p → SetBelow (states_of p.rule) (cells_at p.interventions b g)
SetBelow-at p b g sound = each_at _ (states_of p.rule) p.interventions b g
    (λ i k. k.below) sound.interventions_allowed

-- a line of generations keeps the states below the rule's
below_along : (p : Plan) (b : ℕ) (at : ℕ → ℕ) (w : World) (g : ℕ) → IsSound p → AllBelow (states_of p.rule) w
    → AllBelow (states_of p.rule) (line.arrive (next_of p.rule) (λ k. cells_at p.interventions b (at k)) w g)
below_along p b at w g sound h = AllBelow-arrive (next_of p.rule) (next_of-quiet p.rule) (states_of p.rule)
    (next_of-below p.rule) (λ k. cells_at p.interventions b (at k)) w (λ k. SetBelow-at p b (at k) sound) h g

AllBelow-arrives : (p : Plan) (n b g : ℕ) → IsSound p → AllBelow (states_of p.rule) (arrive (history_of p) n b g)
unfolding arrive
AllBelow-arrives p zero b g sound = below_along p b (λ k. k) p.start g sound sound.start_below
AllBelow-arrives p (suc n) b g sound =
    let q = parent_of p.branches b in
    let f = fork_of p.branches b in
    let left = lay (cells_at p.interventions q f) (arrive (history_of p) n q f) in
    elim (b == 0) as (λ t. AllBelow (states_of p.rule)
    (if t then line.arrive (next_of p.rule) (cells_at p.interventions b) p.start g
    else line.arrive (next_of p.rule) (λ k. cells_at p.interventions b (f + k)) left (g - f))) [
      | true ↦ below_along p b (λ k. k) p.start g sound sound.start_below
      | false ↦ below_along p b (λ k. f + k) left (g - f) sound
          (AllBelow-lay (states_of p.rule) (cells_at p.interventions q f) (arrive (history_of p) n q f)
          (SetBelow-at p q f sound) (AllBelow-arrives p n q f sound))
    ]

-- after each generation of a branch the states are below the rule's
pub AllBelow-after : (p : Plan) (b g : ℕ) → IsSound p → AllBelow (states_of p.rule) (after p b g)
AllBelow-after p b g sound = AllBelow-lay (states_of p.rule) (cells_at p.interventions b g) (arrival p b g)
    (SetBelow-at p b g sound) (AllBelow-arrives p b b g sound)

-- a line of generations leaves room for those that are left
margin_along : (p : Plan) (b far : ℕ) (at : ℕ → ℕ) (w : World) (g : ℕ) → far ≤ 2 ^ 60 → g ≤ far → IsSound p
    → HasMargin far w → HasMargin (far - g) (line.arrive (next_of p.rule)
    (λ k. cells_at p.interventions b (at k)) w g)
margin_along p b far at w g near le sound h =
    HasMargin-arrive (next_of p.rule) (next_of-quiet p.rule) (λ k. cells_at p.interventions b (at k)) w far
    (λ k. AreInside-less (cells_at p.interventions b (at k)) far (2 ^ 60) near
    (AreNamed-at p b (at k) sound)) h g le

HasMargin-arrives : (p : Plan) (n b g : ℕ) → fork_of p.branches b ≤ g → g ≤ 2 ^ 60 → IsSound p
    → HasMargin (2 ^ 60 - g) (arrive (history_of p) n b g)
unfolding arrive
HasMargin-arrives p zero b g late near sound =
    margin_along p b (2 ^ 60) (λ k. k) p.start g (omega arith) near sound sound.start_inside
HasMargin-arrives p (suc n) b g late near sound =
    let q = parent_of p.branches b in
    let f = fork_of p.branches b in
    let forked = sound.branches_sound.forked in
    let fork_near : f ≤ 2 ^ 60 = forks_near p.branches forked b in
    let left = lay (cells_at p.interventions q f) (arrive (history_of p) n q f) in
    elim (b == 0) as (λ t. HasMargin (2 ^ 60 - g)
    (if t then line.arrive (next_of p.rule) (cells_at p.interventions b) p.start g
    else line.arrive (next_of p.rule) (λ k. cells_at p.interventions b (f + k)) left (g - f))) [
      | true ↦ margin_along p b (2 ^ 60) (λ k. k) p.start g (omega arith) near sound sound.start_inside
      | false ↦
          let before = HasMargin-arrives p n q f (forks_rise p.branches forked b) fork_near sound in
          let laid = HasMargin-lay (2 ^ 60 - f) (cells_at p.interventions q f) (arrive (history_of p) n q f)
          (AreInside-less (cells_at p.interventions q f) (2 ^ 60 - f) (2 ^ 60) (omega arith)
          (AreNamed-at p q f sound)) before in
          let room : (2 ^ 60 - f) - (g - f) ≡ 2 ^ 60 - g = omega (arith, late, near, fork_near) in
          subst (λ m. HasMargin m (line.arrive (next_of p.rule) (λ k. cells_at p.interventions b (f + k)) left
          (g - f))) room (margin_along p b (2 ^ 60 - f) (λ k. f + k) left (g - f) (omega arith)
          (omega (arith, late, near)) sound laid)
    ]

-- and the pattern has room for the generations that are left
pub HasMargin-after : (p : Plan) (b g : ℕ) → fork_of p.branches b ≤ g → g ≤ 2 ^ 60 → IsSound p
    → HasMargin (2 ^ 60 - g) (after p b g)
HasMargin-after p b g late near sound =
    HasMargin-lay (2 ^ 60 - g) (cells_at p.interventions b g) (arrival p b g)
    (AreInside-less (cells_at p.interventions b g) (2 ^ 60 - g) (2 ^ 60) (omega arith) (AreNamed-at p b g sound))
    (HasMargin-arrives p b b g late near sound)

laid_each : (n : ℕ) (cells : List CellSet) → n ≤ 256 → AreNamed cells → SetBelow n cells
    → AllByRecursion CanBeLaid cells
laid_each n [] few named below = tt
laid_each n (c ∷ cells) few named below =
    grind (arith, IsInside-less 0 (2 ^ 60) c.x c.y, laid_each n cells few named.1 below.1)

-- named cells of a rule's states can be laid on a plane
pub CanBeLaid-named : (n : ℕ) (cells : List CellSet) → n ≤ 256 → AreNamed cells → SetBelow n cells
    → All CanBeLaid cells
CanBeLaid-named n cells few named below = All-from_recursion CanBeLaid cells (laid_each n cells few named below)
