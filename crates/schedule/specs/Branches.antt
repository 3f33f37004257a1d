-- The branches of a document by their ids: which are there, and where each begins.
use Rattle.std.specs.Prelude.{ℕ, Bool, ◌||◌, ◌==◌, List, Option, find, fold, max, if◌then◌else◌}
use Rattle.std.specs.Option.{option_map, option_map_or}
use Rattle.std.specs.List.{list_any}
use Rattle.schedule.specs.declared.branch.Branch.{Branch}
use Rattle.schedule.specs.declared.document.Intervention.{Intervention}
use Rattle.schedule.specs.declared.document.Bookmark.{Bookmark}
use Rattle.schedule.specs.Plan.{Plan}
use Rattle.schedule.specs.Ids.{intervention_id, bookmark_id, branch_id, has_id}

-- the first element of this id
abbrev pub element_at : {X : Type 0} → (X → ℕ) → List X → ℕ → Option X
element_at id xs n = find (λ x. id x == n) xs

-- whether a branch is there: 0, or one of the list
abbrev pub has_branch : List Branch → ℕ → Bool
has_branch branches b = b == 0 || has_id branch_id branches b

-- the generation at which a branch leaves its parent; 0 for branch 0, which has none
abbrev pub fork_of : List Branch → ℕ → ℕ
fork_of branches b = option_map_or (λ (x : Branch). x.fork) (element_at branch_id branches b) 0

-- the parent of a branch; 0 for branch 0
abbrev pub parent_of : List Branch → ℕ → ℕ
parent_of branches b = option_map_or (λ (x : Branch). x.parent) (element_at branch_id branches b) 0

-- the branch of the intervention of an id
abbrev pub intervention_branch : List Intervention → ℕ → Option ℕ
intervention_branch interventions id =
    option_map (λ (i : Intervention). i.branch) (element_at intervention_id interventions id)

-- the branch of the bookmark of an id
abbrev pub bookmark_branch : List Bookmark → ℕ → Option ℕ
bookmark_branch bookmarks id =
    option_map (λ (b : Bookmark). b.branch) (element_at bookmark_id bookmarks id)

-- whether a branch has an intervention
abbrev pub has_interventions : List Intervention → ℕ → Bool
has_interventions interventions b = list_any (λ (i : Intervention). i.branch == b) interventions

-- whether a branch has a bookmark
abbrev pub has_bookmarks : List Bookmark → ℕ → Bool
has_bookmarks bookmarks b = list_any (λ (k : Bookmark). k.branch == b) bookmarks

-- whether a branch leaves it
abbrev pub has_children : List Branch → ℕ → Bool
has_children branches b = list_any (λ (x : Branch). x.parent == b) branches

-- the greatest generation of a branch's bookmarks, and n at least
abbrev pub farthest_bookmark : List Bookmark → ℕ → ℕ → ℕ
farthest_bookmark bookmarks b n =
    fold (λ far (k : Bookmark). if k.branch == b then max far k.generation else far) n bookmarks

-- the greatest generation at which a branch leaves it, and n at least
abbrev pub farthest_fork : List Branch → ℕ → ℕ → ℕ
farthest_fork branches b n =
    fold (λ far (x : Branch). if x.parent == b then max far x.fork else far) n branches

-- the reach of a branch: the greatest of its fork, its bookmarks' generations and the forks out of
-- it; no pattern of it is wanted beyond
abbrev pub reach : Plan → ℕ → ℕ
reach p b = farthest_bookmark p.bookmarks b (farthest_fork p.branches b (fork_of p.branches b))
