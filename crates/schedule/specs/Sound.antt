-- What holds of every document.
use Rattle.std.specs.Prelude.{◌≡◌, ℕ, ◌<◌, ◌≤◌, ◌^◌, true, List, length}
use Rattle.std.specs.List.{AllByRecursion}
use Rattle.worlds.specs.Range.{IsInside, HasMargin, AllBelow}
use Rattle.worlds.specs.declared.cell.CellSet.{CellSet}
use Rattle.rule_tree.specs.Rule.{states_of}
use Rattle.bookmarks.specs.Within.{KeepsViewLimits}
use Rattle.schedule.specs.declared.document.Intervention.{Intervention}
use Rattle.schedule.specs.declared.document.Bookmark.{Bookmark}
use Rattle.schedule.specs.declared.branch.Branch.{Branch}
use Rattle.schedule.specs.Acts.{first_of, IsTimely}
use Rattle.schedule.specs.Repeats.{most_marks, repeat_marks}
use Rattle.schedule.specs.Plan.{Plan}
use Rattle.schedule.specs.Ids.{IdsRise, intervention_id, bookmark_id, branch_id}
use Rattle.schedule.specs.Branches.{has_branch, fork_of}

-- the cells lie where an edit may name them: in -2^60 <= x, y < 2^60, which is 2^60 from the edges
-- of the range of planes
abbrev pub AreNamed : List CellSet → Type 0
AreNamed = AllByRecursion (λ c. IsInside (2 ^ 60) c.x c.y)

-- their states are below n
abbrev pub SetBelow : ℕ → List CellSet → Type 0
SetBelow n = AllByRecursion (λ c. c.state < n)

-- an intervention that an edit may make under a rule of n states
pub record IsAllowed (n : ℕ) (i : Intervention) : Type 0 where
  pub timely : IsTimely i.acts
  pub named : AreNamed i.cells
  pub below : SetBelow n i.cells

-- a generation at or above the fork of a branch that is there
pub record IsPlaced (branches : List Branch) (b g : ℕ) : Type 0 where
  pub there : has_branch branches b ≡ true
  pub from_fork : fork_of branches b ≤ g

-- a branch that leaves one of a lesser id, which is there, at or above the fork of that one
pub record IsForked (branches : List Branch) (x : Branch) : Type 0 where
  pub later : x.parent < x.id
  pub placed : IsPlaced branches x.parent x.fork
  pub near : x.fork ≤ 2 ^ 60

-- each intervention acts in a branch that is there, first at or above its fork
abbrev pub ArePlaced : List Branch → List Intervention → Type 0
ArePlaced branches =
    AllByRecursion (λ (i : Intervention). IsPlaced branches i.branch (first_of i.acts))

-- each bookmark does
abbrev pub AreMarked : List Branch → List Bookmark → Type 0
AreMarked branches = AllByRecursion (λ (b : Bookmark). IsPlaced branches b.branch b.generation)

-- the limits that the branches keep
pub record AreSound (p : Plan) : Type 0 where
  pub forked : AllByRecursion (IsForked p.branches) p.branches
  pub rise : IdsRise branch_id p.branches
  pub given : AllByRecursion (λ (x : Branch). x.id ≤ p.last_branch) p.branches
  pub few : length p.branches ≤ 64
  pub within : p.last_branch ≤ p.revision
  pub interventions_placed : ArePlaced p.branches p.interventions
  pub bookmarks_placed : AreMarked p.branches p.bookmarks

-- the limits that every edit keeps
pub record IsSound (p : Plan) : Type 0 where
  pub few_states : states_of p.rule ≤ 256
  pub start_below : AllBelow (states_of p.rule) p.start
  pub start_inside : HasMargin (2 ^ 60) p.start
  pub interventions_allowed : AllByRecursion (IsAllowed (states_of p.rule)) p.interventions
  pub interventions_rise : IdsRise intervention_id p.interventions
  pub interventions_given : AllByRecursion (λ (i : Intervention). i.id ≤ p.last_intervention)
      p.interventions
  pub few_interventions : length p.interventions ≤ 4096
  pub interventions_within : p.last_intervention ≤ p.revision
  pub few_marks : repeat_marks p ≤ most_marks
  pub bookmarks_near : AllByRecursion (λ (b : Bookmark). b.generation ≤ 2 ^ 60) p.bookmarks
  pub views_within : AllByRecursion (λ (b : Bookmark). KeepsViewLimits b.view) p.bookmarks
  pub bookmarks_rise : IdsRise bookmark_id p.bookmarks
  pub bookmarks_given : AllByRecursion (λ (b : Bookmark). b.id ≤ p.last_bookmark) p.bookmarks
  pub few_bookmarks : length p.bookmarks ≤ 4096
  pub bookmarks_within : p.last_bookmark ≤ p.revision
  pub branches_sound : AreSound p
