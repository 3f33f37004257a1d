-- What a document has, a line for each branch, intervention and bookmark.
use Rattle.std.specs.Prelude.{ℕ, ◌+◌, List, ◌++◌, Bool, true, false, length, flat_map, codes, decimal}
use Rattle.schedule.specs.declared.branch.Branch.{Branch}
use Rattle.schedule.specs.declared.document.Intervention.{Intervention}
use Rattle.schedule.specs.declared.document.Bookmark.{Bookmark}
use Rattle.schedule.specs.Plan.{Plan}
use Rattle.desk_script.specs.Scripted.{acts_words, view_words}

-- where a branch leaves its parent
abbrev pub branch_line : Branch → List ℕ
branch_line b =
    codes "branch "
    ++ (decimal b.id
    ++ (codes " of " ++ (decimal b.parent ++ (codes " at " ++ (decimal b.fork ++ codes "\n")))))

-- and how many cells it sets
abbrev pub intervention_line : Intervention → List ℕ
intervention_line i =
    codes "intervention "
    ++ (decimal i.id
    ++ (codes " on "
    ++ (decimal i.branch
    ++ (acts_words i.acts ++ (codes " cells " ++ (decimal (length i.cells) ++ codes "\n"))))))

-- whether a text is known
abbrev pub known_words : Bool → List ℕ
known_words true = codes " current\n"
known_words false = codes " pending\n"

-- where a bookmark looks, at what, and whether its text is known
abbrev pub bookmark_line : Bookmark → Bool → List ℕ
bookmark_line b is_known =
    codes "bookmark "
    ++ (decimal b.id
    ++ (codes " on "
    ++ (decimal b.branch
    ++ (codes " at "
    ++ (decimal b.generation
    ++ (codes " " ++ (view_words b.view ++ known_words is_known)))))))

-- how many lines there are
abbrev pub lines_of : Plan → ℕ
lines_of p = length p.branches + length p.interventions + length p.bookmarks

-- all of them by rising ids, where the texts of these bookmarks are known, and how many there are
abbrev pub listed_text : Plan → (ℕ → Bool) → List ℕ
listed_text p known =
    flat_map branch_line p.branches
    ++ (flat_map intervention_line p.interventions
    ++ (flat_map (λ (b : Bookmark). bookmark_line b (known b.id)) p.bookmarks
    ++ (codes "listed " ++ (decimal (lines_of p) ++ codes "\n"))))
