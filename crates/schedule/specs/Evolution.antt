-- What arrives at the generations of branches.
use Rattle.std.specs.Prelude.{ℕ, zero, suc, ◌+◌, ◌-◌, nat_lt, Bool, false, ◌&&◌, ◌==◌, List, if◌then◌else◌}
use Rattle.worlds.specs.declared.cell.CellSet.{CellSet}
use Rattle.worlds.specs.World.{World}
use Rattle.worlds.specs.Lay.{lay}
use Rattle.worlds.specs.Arrival as line
use Rattle.schedule.specs.declared.branch.Branch.{Branch}
use Rattle.schedule.specs.Branches.{fork_of, parent_of}

-- what the next state of a cell is, which cells are laid at the generations of each branch, the
-- pattern at generation 0, and the branches besides 0
pub record Evolution : Type 0 where
  pub next : List ℕ → ℕ
  pub cells : ℕ → ℕ → List CellSet
  pub start : World
  pub branches : List Branch

-- what arrives at generation g of branch b: branch 0 begins with the start, and another at its fork
-- with what leaves its parent there; at most n branches stand between it and branch 0
unfoldable pub arrive : Evolution → ℕ → ℕ → ℕ → World
arrive h zero b g = line.arrive h.next (h.cells b) h.start g
arrive h (suc n) b g =
    if b == 0 then line.arrive h.next (h.cells b) h.start g
    else line.arrive h.next (λ k. h.cells b (fork_of h.branches b + k))
    (lay (h.cells (parent_of h.branches b) (fork_of h.branches b))
    (arrive h n (parent_of h.branches b) (fork_of h.branches b)))
    (g - fork_of h.branches b)

-- whether what is laid at generation k of branch c, or later there, stands on the line back from
-- what arrives at generation g of branch b; at most n branches stand between it and branch 0
unfoldable pub is_felt : List Branch → ℕ → ℕ → ℕ → ℕ → ℕ → Bool
is_felt branches zero b g c k = b == c && nat_lt k g
is_felt branches (suc n) b g c k =
    if b == c then nat_lt k g
    else if b == 0 then false
    else is_felt branches n (parent_of branches b) (fork_of branches b + 1) c k
