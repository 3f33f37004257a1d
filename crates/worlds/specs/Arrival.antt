-- The history of a pattern under interventions: which world arrives at a generation, which leaves.
use Rattle.std.specs.Prelude.{◌≡◌, ℕ, zero, suc, ◌+◌, ◌<◌, List, [], ◌∷◌, ◌++◌, ◌==◌, if◌then◌else◌}
use Rattle.std.proofs.Common.{refl, sym, ap, ap₂, ◌∙◌, add-one, arith}
use Rattle.worlds.specs.declared.cell.CellSet.{CellSet}
use Rattle.worlds.specs.World.{World}
use Rattle.worlds.specs.Lay.{lay}
use Rattle.worlds.specs.Step.{step}
use Rattle.worlds.specs.Iterate.{iterate, iterate-one_more, iterate-zero}

-- the cells that interventions, each a generation with its cells, set at generation g, one by one
abbrev pub cells_at : List (ℕ × List CellSet) → ℕ → List CellSet
cells_at [] g = []
cells_at (e ∷ es) g = if e.0 == g then e.1 ++ cells_at es g else cells_at es g

-- the world that arrives at generation g, where `cells` says what is laid at each generation
unfoldable pub arrive : (List ℕ → ℕ) → (ℕ → List CellSet) → World → ℕ → World
arrive next cells start zero = start
arrive next cells start (suc g) = step next (lay (cells g) (arrive next cells start g))

-- the world that leaves generation g: what arrived, with the cells of that generation laid on it
abbrev pub after : (List ℕ → ℕ) → (ℕ → List CellSet) → World → ℕ → World
after next cells start g = lay (cells g) (arrive next cells start g)

pub arrive-zero : (next : List ℕ → ℕ) (cells : ℕ → List CellSet) (start : World)
    → arrive next cells start 0 ≡ start
unfolding arrive
arrive-zero next cells start = refl

pub arrive-one_more : (next : List ℕ → ℕ) (cells : ℕ → List CellSet) (start : World) (g : ℕ)
    → arrive next cells start (g + 1) ≡ step next (after next cells start g)
unfolding arrive
arrive-one_more next cells start g = ap (arrive next cells start) (add-one g)

-- what arrives depends on what was laid before alone
pub arrive-past : (next : List ℕ → ℕ) (cells others : ℕ → List CellSet) (start : World) (g : ℕ)
    → ((k : ℕ) → k < g → cells k ≡ others k)
    → arrive next cells start g ≡ arrive next others start g
unfolding arrive
arrive-past next cells others start zero same = refl
arrive-past next cells others start (suc g) same =
    ap (step next)
    (ap₂ lay (same g (omega arith))
    (arrive-past next cells others start g (λ k h. same k (omega arith))))

-- where nothing is laid within a gap, its end is that many steps from what left its start
pub arrive-gap : (next : List ℕ → ℕ) (cells : ℕ → List CellSet) (start : World) (g n : ℕ)
    → ((k : ℕ) → g < k → k < g + suc n → cells k ≡ [])
    → arrive next cells start (g + suc n) ≡ iterate (suc n) (step next) (after next cells start g)
unfolding arrive
arrive-gap next cells start g zero quiet =
    let one : suc 0 ≡ 0 + 1 = omega arith in
    arrive-one_more next cells start g
    ∙ ap (step next) (sym (iterate-zero (step next) (after next cells start g)))
    ∙ sym (iterate-one_more 0 (step next) (after next cells start g))
arrive-gap next cells start g (suc n) quiet =
    let last : g + suc (suc n) ≡ (g + suc n) + 1 = omega arith in
    let count : suc n + 1 ≡ suc (suc n) = omega arith in
    ap (arrive next cells start) last
    ∙ arrive-one_more next cells start (g + suc n)
    ∙ ap (λ cs. step next (lay cs (arrive next cells start (g + suc n))))
    (quiet (g + suc n) (omega arith) (omega arith))
    ∙ ap (step next) (arrive-gap next cells start g n (λ k a b. quiet k a (omega arith)))
    ∙ sym (iterate-one_more (suc n) (step next) (after next cells start g))
    ∙ ap (λ m. iterate m (step next) (after next cells start g)) count
