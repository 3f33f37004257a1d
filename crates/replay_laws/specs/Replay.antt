-- The edits by which the opening document becomes another one.
use Rattle.std.specs.Prelude.{ℕ, ◌+◌, ◌-◌, pos, List, [], ◌∷◌, ◌++◌, flat_map}
use Rattle.std.specs.List.{range_with_len}
use Rattle.bookmarks.specs.declared.view.View.TheVariants.{Counts}
use Rattle.schedule.specs.declared.document.Intervention.{Intervention}
use Rattle.schedule.specs.declared.document.Bookmark.{Bookmark}
use Rattle.schedule.specs.declared.branch.Branch.{Branch}
use Rattle.schedule.specs.declared.acts.Acts.TheVariants.{Once}
use Rattle.schedule.specs.Asked.{Asked, Insert, RemoveIntervention, ReplaceStart, ReplaceRule, AddBookmark, RemoveBookmark, AddBranch, RemoveBranch}
use Rattle.schedule.specs.Ids.{intervention_id, bookmark_id, branch_id}
use Rattle.schedule.specs.Plan.{Plan}

-- the edit that adds a branch like this
abbrev pub add_branch : Branch → Asked
add_branch x = AddBranch x.parent x.fork

-- the one that adds such a bookmark
abbrev pub add_bookmark : Bookmark → Asked
add_bookmark b = AddBookmark b.branch b.generation b.view

-- the one that inserts such an intervention
abbrev pub add_intervention : Intervention → Asked
add_intervention i = Insert i.branch i.acts i.cells

-- the edits that skip an id of branches: one is added, which gets it, and is removed
abbrev pub skip_branch : ℕ → List Asked
skip_branch id = AddBranch 0 0 ∷ RemoveBranch id ∷ []

-- those that skip one of bookmarks
abbrev pub skip_bookmark : ℕ → List Asked
skip_bookmark id = AddBookmark 0 0 Counts ∷ RemoveBookmark id ∷ []

-- those that skip one of interventions
abbrev pub skip_intervention : ℕ → List Asked
skip_intervention id =
    Insert 0 (Once 0) (record { x = pos 0; y = pos 0; state = 0 } ∷ [])
    ∷ RemoveIntervention id ∷ []

-- the ids above one and below another
abbrev pub ids_between : ℕ → ℕ → List ℕ
ids_between last id = range_with_len (last + 1) (id - (last + 1))

-- the edits that add the elements of a list, whose ids rise, where `last` is the last id that was
-- given: before each element the ids that are left out are skipped
abbrev pub add_all :
    {X : Type 0} → (X → ℕ) → (ℕ → List Asked) → (X → Asked) → ℕ → List X → List Asked
add_all id skip add last [] = []
add_all id skip add last (x ∷ xs) =
    flat_map skip (ids_between last (id x)) ++ add x ∷ add_all id skip add (id x) xs

-- the edits that add the branches of a document
abbrev pub branch_edits : Plan → List Asked
branch_edits p = add_all branch_id skip_branch add_branch 0 p.branches

-- those that add its bookmarks
abbrev pub bookmark_edits : Plan → List Asked
bookmark_edits p = add_all bookmark_id skip_bookmark add_bookmark 0 p.bookmarks

-- those that add its interventions
abbrev pub intervention_edits : Plan → List Asked
intervention_edits p =
    add_all intervention_id skip_intervention add_intervention 0 p.interventions

-- the edits that add all three; interventions come last, so that no marks are counted before them,
-- and then never more than those of the document
abbrev pub row_edits : Plan → List Asked
row_edits p = branch_edits p ++ bookmark_edits p ++ intervention_edits p

-- the edits by which the opening document becomes this one, but for its revision and the last ids
abbrev pub edits_for : Plan → List Asked
edits_for p = ReplaceRule p.rule ∷ ReplaceStart p.start ∷ row_edits p
