-- A worked document. It shows that the law speaks of something.
use Rattle.std.specs.Prelude.{◌≡◌, ℕ, ◌+◌, ◌<◌, ◌^◌, pos, List, [], ◌∷◌}
use Rattle.worlds.specs.declared.cell.CellSet.{CellSet}
use Rattle.worlds.specs.World.{blank}
use Rattle.worlds.specs.Lay.{lay}
use Rattle.rule_tree.specs.Rule.{still}
use Rattle.bookmarks.specs.declared.view.View.TheVariants.{Counts}
use Rattle.schedule.specs.declared.acts.Acts.TheVariants.{Once, Every}
use Rattle.schedule.specs.Asked.{Asked, Insert, RemoveIntervention, SetCells, ReplaceStart, ReplaceRule, AddBookmark, RemoveBookmark, AddBranch, RemoveBranch}
use Rattle.schedule.specs.Plan.{Plan, opening}
use Rattle.schedule.specs.Sound.{IsSound}
use Rattle.replay_laws.specs.Law.{Lead}
use Rattle.replay_laws.specs.Replay.{edits_for}

-- the cell at the origin in this state
abbrev pub origin : ℕ → List CellSet
origin state = record { x = pos 0; y = pos 0; state = state } ∷ []

-- a start, two branches, three bookmarks and two interventions are made, and of each kind the first
-- one is removed, and the last bookmark too
abbrev pub edits_once : List Asked
edits_once =
    SetCells (origin 1)
    ∷ AddBranch 0 2 ∷ AddBranch 0 4 ∷ RemoveBranch 1
    ∷ AddBookmark 0 1 Counts ∷ AddBookmark 2 8 Counts ∷ AddBookmark 0 3 Counts
    ∷ RemoveBookmark 1 ∷ RemoveBookmark 3
    ∷ Insert 0 (Once 0) (origin 0) ∷ Insert 2 (Every 5 2 9) (origin 1) ∷ RemoveIntervention 1
    ∷ []

-- what comes of it: one branch, one bookmark and one intervention that repeats, each of id 2
abbrev pub worked : Plan
worked = record {
  rule = still;
  start = lay (origin 1) blank;
  interventions =
      record { id = 2; branch = 2; acts = Every 5 2 9; cells = origin 1 } ∷ [];
  bookmarks = record { id = 2; branch = 2; generation = 8; view = Counts } ∷ [];
  branches = record { id = 2; parent = 0; fork = 4 } ∷ [];
  revision = 12;
  last_intervention = 2;
  last_bookmark = 3;
  last_branch = 2;
}

-- the edits for it, in which the first id of each kind is given and skipped
abbrev pub edits_anew : List Asked
edits_anew =
    ReplaceRule still ∷ ReplaceStart (lay (origin 1) blank)
    ∷ AddBranch 0 0 ∷ RemoveBranch 1 ∷ AddBranch 0 4
    ∷ AddBookmark 0 0 Counts ∷ RemoveBookmark 1 ∷ AddBookmark 2 8 Counts
    ∷ Insert 0 (Once 0) (origin 0) ∷ RemoveIntervention 1 ∷ Insert 2 (Every 5 2 9) (origin 1)
    ∷ []

-- the document keeps its limits, comes of those edits and has revisions left, and the edits for it
-- make it anew at revision 11, with the same ids, and with no trace of the last bookmark
pub record WorkedDocument : Type 0 where
  pub sound : IsSound worked
  pub made : Lead edits_once (opening 0) worked
  pub left : worked.revision + 2 < 2 ^ 64
  pub edits : edits_for worked ≡ edits_anew
  pub anew : Lead edits_anew (opening 0) (record worked { revision = 11; last_bookmark = 2 })
