-- What the definitions are meant to say of branches and of what repeats: each statement is proved
-- by a function of the same name.
use Rattle.std.specs.Prelude.{◌≡◌, ◌⊎◌, ℕ, suc, ◌+◌, ◌<◌, ◌≤◌, nat_le, false, ◌&&◌, ◌==◌, List, [], ◌∷◌, ◌++◌, map, flat_map, length, filter, true, ◌*◌}
use Rattle.std.specs.List.{AllByRecursion, list_any}
use Rattle.worlds.specs.declared.cell.CellSet.{CellSet}
use Rattle.worlds.specs.World.{World}
use Rattle.worlds.specs.Step.{step}
use Rattle.worlds.specs.Iterate.{iterate}
use Rattle.worlds.specs.Arrival as line
use Rattle.rule_tree.specs.Rule.{name_of, states_of, next_of}
use Rattle.bookmarks.specs.Text.{text_of}
use Rattle.schedule.specs.declared.document.Intervention.{Intervention}
use Rattle.schedule.specs.declared.document.Bookmark.{Bookmark}
use Rattle.schedule.specs.declared.branch.Branch.{Branch}
use Rattle.schedule.specs.declared.acts.Acts.{Acts}
use Rattle.schedule.specs.declared.acts.Acts.TheVariants.{Once, Every}
use Rattle.schedule.specs.Acts.{acts_on, generations_of, marks_to, IsTimely}
use Rattle.schedule.specs.Plan.{Plan}
use Rattle.schedule.specs.Alike.{LayAlike, LayAlikeWithin}
use Rattle.schedule.specs.Branches.{has_branch, fork_of, parent_of, reach}
use Rattle.schedule.specs.Evolution.{is_felt}
use Rattle.schedule.specs.Scratch.{cells_at, arrival, after, scratch}
use Rattle.schedule.specs.Sound.{IsSound}
use Rattle.schedule.specs.Change.{is_in_use, with_branch, without_branch}

-- an intervention's cells at each generation at which it acts
abbrev pub told : Intervention → List (ℕ × List CellSet)
told i = map (λ g. (g, i.cells)) (generations_of i.acts)

-- the pattern that arrives at a generation, where there is one line of history alone, with each
-- intervention at its generations
abbrev pub arrival_alone : Plan → ℕ → World
arrival_alone p g =
    line.arrive (next_of p.rule) (line.cells_at (flat_map told p.interventions)) p.start g

-- and the one after the generation's interventions
abbrev pub after_alone : Plan → ℕ → World
after_alone p g =
    line.after (next_of p.rule) (line.cells_at (flat_map told p.interventions)) p.start g

-- a bookmark's text, where there is one line of history alone
abbrev pub scratch_alone : Plan → Bookmark → List ℕ
scratch_alone p b =
    text_of b.view (after_alone p b.generation) (name_of p.rule) (states_of p.rule) b.generation

-- branch 0 is one line of history alone: so are what arrives, what leaves, and what bookmarks show
pub record IsOneLine (p : Plan) : Type 0 where
  pub arrivals : (g : ℕ) → arrival p 0 g ≡ arrival_alone p g
  pub patterns : (g : ℕ) → after p 0 g ≡ after_alone p g
  pub texts : (b : Bookmark) → b.branch ≡ 0 → scratch p b ≡ scratch_alone p b

-- so it is without branches
abbrev pub WithoutBranches : Type 0
WithoutBranches = (p : Plan) → IsSound p → p.branches ≡ [] → IsOneLine p

-- the start arrives at generation 0 of branch 0
abbrev pub StartArrives : Type 0
StartArrives = (p : Plan) → arrival p 0 0 ≡ p.start

-- at its fork a branch has what its parent has after that generation's interventions
abbrev pub BranchBegins : Type 0
BranchBegins =
    (p : Plan) → IsSound p → (b : ℕ) → 0 < b
    → arrival p b (fork_of p.branches b) ≡ after p (parent_of p.branches b) (fork_of p.branches b)

-- each generation from the fork on is a step from what the one before leaves
abbrev pub BranchSteps : Type 0
BranchSteps =
    (p : Plan) (b g : ℕ) → fork_of p.branches b ≤ g
    → arrival p b (g + 1) ≡ step (next_of p.rule) (after p b g)

-- where no intervention of a branch acts within a gap, its end is that many steps from what leaves
-- its beginning
abbrev pub BranchUndisturbed : Type 0
BranchUndisturbed =
    (p : Plan) (b g n : ℕ) → fork_of p.branches b ≤ g
    → ((k : ℕ) → g < k → k < g + suc n → cells_at p.interventions b k ≡ [])
    → arrival p b (g + suc n) ≡ iterate (suc n) (step (next_of p.rule)) (after p b g)

-- a bookmark of a branch stands at a generation, or a branch leaves it there
abbrev pub IsMark : Plan → ℕ → ℕ → Type 0
IsMark p b g =
    (list_any (λ (k : Bookmark). k.branch == b && k.generation == g) p.bookmarks ≡ true)
    ⊎ (list_any (λ (x : Branch). x.parent == b && x.fork == g) p.branches ≡ true)

-- the greatest of a branch's fork, its bookmarks' generations and the forks out of it
pub record IsReach (p : Plan) (b far : ℕ) : Type 0 where
  pub from_fork : fork_of p.branches b ≤ far
  pub bookmarks :
      AllByRecursion (λ (k : Bookmark). (k.branch == b) ≡ true → k.generation ≤ far) p.bookmarks
  pub forks : AllByRecursion (λ (x : Branch). (x.parent == b) ≡ true → x.fork ≤ far) p.branches
  pub is : (far ≡ fork_of p.branches b) ⊎ IsMark p b far

-- the reach of a branch is what it is called
abbrev pub ReachIsGreatest : Type 0
ReachIsGreatest = (p : Plan) (b : ℕ) → IsReach p b (reach p b)

-- two lists of interventions set the same cells but at generations of branch c from k on
abbrev pub SameElsewhere : List Intervention → List Intervention → ℕ → ℕ → Type 0
SameElsewhere is others c k =
    (b g : ℕ) → (b == c && nat_le k g) ≡ false → cells_at is b g ≡ cells_at others b g

-- other interventions from generation k of branch c on change what arrives only where they are felt
abbrev pub ArrivalDependsOnItsLine : Type 0
ArrivalDependsOnItsLine =
    (p : Plan) → IsSound p → (others : List Intervention) (c k : ℕ)
    → SameElsewhere p.interventions others c k
    → (b g : ℕ) → is_felt p.branches b b g c k ≡ false
    → arrival p b g ≡ arrival (record p { interventions = others }) b g

-- interventions that give each generation of each branch the same world change no arrival
abbrev pub ArrivalDependsOnWorlds : Type 0
ArrivalDependsOnWorlds =
    (p q : Plan) → IsSound p → LayAlike p q → (b g : ℕ) → arrival p b g ≡ arrival q b g

-- those that do so as far as the branches reach change none as far
abbrev pub ArrivalWithinReach : Type 0
ArrivalWithinReach =
    (p q : Plan) → IsSound p → LayAlikeWithin p q → (b g : ℕ) → g ≤ reach p b
    → arrival p b g ≡ arrival q b g

-- one branch more leaves what arrives in the others
abbrev pub NewBranchKeepsArrivals : Type 0
NewBranchKeepsArrivals =
    (p : Plan) → IsSound p → (parent generation b g : ℕ) → has_branch p.branches b ≡ true
    → arrival p b g ≡ arrival (with_branch p parent generation).plan b g

-- so does one that isn't in use, removed
abbrev pub RemovedBranchKeepsArrivals : Type 0
RemovedBranchKeepsArrivals =
    (p : Plan) → IsSound p → (n : ℕ) → is_in_use p n ≡ false
    → (b g : ℕ) → (b == n) ≡ false → arrival p b g ≡ arrival (without_branch p n).plan b g

-- one that repeats acts at `first + i * every` up to the last, and nowhere else
pub record IsProgression (first every last : ℕ) : Type 0 where
  pub acts : (i : ℕ) → first + i * every ≤ last
      → acts_on (Every first every last) (first + i * every) ≡ true
  pub alone : (g : ℕ) → acts_on (Every first every last) g ≡ true
      → (g ≤ last) × ((i : ℕ) × (g ≡ first + i * every))

abbrev pub RepeatsAreProgressions : Type 0
RepeatsAreProgressions = (first every last : ℕ) → 0 < every → IsProgression first every last

-- its marks are counted: there are as many as generations at which it acts and which its branch
-- reaches
abbrev pub MarksAreCounted : Type 0
MarksAreCounted =
    (first every last far : ℕ) → 0 < every
    → marks_to far (Every first every last)
    ≡ length (filter (λ g. nat_le g far) (generations_of (Every first every last)))

-- when an intervention acts, where, and its cells
abbrev pub setting : Intervention → Acts × ℕ × List CellSet
setting i = (i.acts, i.branch, i.cells)

-- interventions that each act once, at the generations of another one, in its branch with its cells
abbrev pub AreSinglesOf : Intervention → List Intervention → Type 0
AreSinglesOf i singles =
    map setting singles ≡ map (λ g. (Once g, i.branch, i.cells)) (generations_of i.acts)

-- they may stand in its place among the others: the same cells are laid, and the same arrives
abbrev pub RepeatIsItsSingles : Type 0
RepeatIsItsSingles =
    (p : Plan) (lesser : List Intervention) (i : Intervention) (greater singles : List Intervention)
    → p.interventions ≡ lesser ++ i ∷ greater → IsTimely i.acts → AreSinglesOf i singles
    → (b g : ℕ)
    → (cells_at p.interventions b g ≡ cells_at (lesser ++ (singles ++ greater)) b g)
    × (arrival p b g ≡ arrival (record p { interventions = lesser ++ (singles ++ greater) }) b g)
