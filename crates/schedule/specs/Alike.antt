-- Documents whose interventions lay on what arrives to equal worlds.
use Rattle.std.specs.Prelude.{◌≡◌, ℕ, ◌≤◌}
use Rattle.worlds.specs.Lay.{lay}
use Rattle.schedule.specs.Plan.{Plan}
use Rattle.schedule.specs.Branches.{fork_of, reach}
use Rattle.schedule.specs.Scratch.{cells_at, arrival, after}

-- two documents have one rule, one start and the same branches, and at each generation of a branch,
-- from its fork on, the lists of both lay on what arrives in the first to equal worlds
pub record LayAlike (p q : Plan) : Type 0 where
  pub rule : p.rule ≡ q.rule
  pub start : p.start ≡ q.start
  pub branches : p.branches ≡ q.branches
  pub lists : (b g : ℕ) → fork_of p.branches b ≤ g
      → after p b g ≡ lay (cells_at q.interventions b g) (arrival p b g)

-- so it is as far as the branches reach
pub record LayAlikeWithin (p q : Plan) : Type 0 where
  pub rule : p.rule ≡ q.rule
  pub start : p.start ≡ q.start
  pub branches : p.branches ≡ q.branches
  pub lists : (b g : ℕ) → fork_of p.branches b ≤ g → g ≤ reach p b
      → after p b g ≡ lay (cells_at q.interventions b g) (arrival p b g)
