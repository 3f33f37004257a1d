-- That the edits for a document make it anew.
use Rattle.std.specs.Prelude.{◌≡◌, ℕ, ◌+◌, ◌<◌, ◌≤◌, ◌^◌, List, [], ◌∷◌, length, None}
use Rattle.std.specs.List.{AllByRecursion}
use Rattle.schedule.specs.declared.document.Intervention.{Intervention}
use Rattle.schedule.specs.declared.document.Bookmark.{Bookmark}
use Rattle.schedule.specs.Asked.{Asked}
use Rattle.schedule.specs.Change.{changed, refusal}
use Rattle.schedule.specs.Ids.{intervention_id, bookmark_id, branch_id}
use Rattle.schedule.specs.Plan.{Plan, opening}
use Rattle.schedule.specs.Scratch.{scratch}
use Rattle.schedule.specs.Sound.{IsSound}
use Rattle.replay_laws.specs.Replay.{row_edits, edits_for}

-- none of these edits is refused, one after another, and they lead from one document to another
abbrev pub Lead : List Asked → Plan → Plan → Type 0
Lead [] p q = q ≡ p
Lead (asked ∷ rest) p q = (refusal p asked ≡ None) × Lead rest (changed p asked).plan q

-- the last id of a list, or else `last`
abbrev pub last_id : {X : Type 0} → (X → ℕ) → ℕ → List X → ℕ
last_id id last [] = last
last_id id last (x ∷ xs) = last_id id (id x) xs

-- the document but for its revision, with the ids of the last elements as the last that were given
abbrev pub remade : ℕ → Plan → Plan
remade revision p = record p {
  revision = revision;
  last_intervention = last_id intervention_id 0 p.interventions;
  last_bookmark = last_id bookmark_id 0 p.bookmarks;
  last_branch = last_id branch_id 0 p.branches;
}

-- the opening document, but for the revision and for rule and start, which are those of this one
abbrev pub bare : ℕ → Plan → Plan
bare revision p = record (opening revision) { rule = p.rule; start = p.start }

-- what holds of every document that edits made of an opening one, beside its limits: ids are given
-- from 1 on, and no intervention sets more than 10,000 cells
pub record IsMade (p : Plan) : Type 0 where
  pub interventions_from_one : AllByRecursion (λ (i : Intervention). 0 < i.id) p.interventions
  pub bookmarks_from_one : AllByRecursion (λ (b : Bookmark). 0 < b.id) p.bookmarks
  pub few_cells : AllByRecursion (λ (i : Intervention). length i.cells ≤ 10000) p.interventions

-- from a document of the same rule and start that has nothing else, and revisions enough, the edits
-- that add branches, bookmarks and interventions lead to this document
abbrev pub RowsAreMadeAnew : Type 0
RowsAreMadeAnew =
    (p : Plan) → IsSound p → IsMade p
    → (revision : ℕ) → revision + length (row_edits p) < 2 ^ 64
    → Lead (row_edits p) (bare revision p) (remade (revision + length (row_edits p)) p)

-- every document that edits made of an opening one, and that has two revisions left, is made anew
-- by the edits for it
abbrev pub DocumentsAreMadeAnew : Type 0
DocumentsAreMadeAnew =
    (revision : ℕ) (edits : List Asked) (p : Plan) → IsSound p → Lead edits (opening revision) p
    → p.revision + 2 < 2 ^ 64
    → Lead (edits_for p) (opening 0) (remade (length (edits_for p)) p)

-- and it shows the same texts
abbrev pub ShowsTheSame : Type 0
ShowsTheSame =
    (p : Plan) (revision : ℕ) (b : Bookmark) → scratch (remade revision p) b ≡ scratch p b

-- whatever edits make of an opening document has ids from 1 on, and interventions of few cells
abbrev pub EditsMakeDocuments : Type 0
EditsMakeDocuments =
    (revision : ℕ) (edits : List Asked) (p : Plan) → Lead edits (opening revision) p → IsMade p
