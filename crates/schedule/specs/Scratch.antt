-- What a bookmark shows by definition: the pattern computed anew from the start, one generation
-- after another along the line of its branch.
use Rattle.std.specs.Prelude.{ℕ, Bool, List, [], flat_map, ◌&&◌, if◌then◌else◌, ◌==◌}
use Rattle.worlds.specs.declared.cell.CellSet.{CellSet}
use Rattle.worlds.specs.World.{World}
use Rattle.worlds.specs.Lay.{lay}
use Rattle.rule_tree.specs.Rule.{name_of, states_of, next_of}
use Rattle.bookmarks.specs.Text.{text_of}
use Rattle.schedule.specs.declared.document.Intervention.{Intervention}
use Rattle.schedule.specs.declared.document.Bookmark.{Bookmark}
use Rattle.schedule.specs.Acts.{acts_on}
use Rattle.schedule.specs.Plan.{Plan}
use Rattle.schedule.specs.Evolution.{Evolution, arrive}

-- whether an intervention acts at generation g of branch b
abbrev pub acts_at : Intervention → ℕ → ℕ → Bool
acts_at i b g = i.branch == b && acts_on i.acts g

-- the cells that it sets there
abbrev pub own_cells : Intervention → ℕ → ℕ → List CellSet
own_cells i b g = if acts_at i b g then i.cells else []

-- the cells that the interventions of generation g of branch b set, by rising id
abbrev pub cells_at : List Intervention → ℕ → ℕ → List CellSet
cells_at interventions b g = flat_map (λ i. own_cells i b g) interventions

-- the rule, the interventions, the start and the branches of a document
abbrev pub history_of : Plan → Evolution
history_of p = record {
  next = next_of p.rule;
  cells = cells_at p.interventions;
  start = p.start;
  branches = p.branches;
}

-- the world that arrives at generation g of branch b; since a parent has a lesser id, at most b
-- branches stand between it and branch 0
abbrev pub arrival : Plan → ℕ → ℕ → World
arrival p b g = arrive (history_of p) b b g

-- the world after the interventions of generation g of branch b
abbrev pub after : Plan → ℕ → ℕ → World
after p b g = lay (cells_at p.interventions b g) (arrival p b g)

-- the text that a bookmark shows
abbrev pub scratch : Plan → Bookmark → List ℕ
scratch p b =
    text_of b.view (after p b.branch b.generation) (name_of p.rule) (states_of p.rule) b.generation
