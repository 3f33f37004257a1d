-- The marks of a document, between which its pattern evolves undisturbed: generation 0 of branch 0,
-- the generations at which branches begin and leave others and bookmarks stand, and those at which
-- interventions act, as far as their branch reaches.
use Rattle.std.specs.Prelude.{◌≡◌, ◌⊎◌, ℕ, ◌<◌, nat_le, Bool, true, false, ◌&&◌, ◌||◌, ◌==◌, List, [], ◌∷◌, map}
use Rattle.std.specs.List.{list_any}
use Rattle.schedule.specs.declared.branch.Branch.{Branch}
use Rattle.schedule.specs.declared.document.Bookmark.{Bookmark}
use Rattle.schedule.specs.declared.document.Intervention.{Intervention}
use Rattle.schedule.specs.Acts.{generations_to}
use Rattle.schedule.specs.Branches.{fork_of, parent_of, reach}
use Rattle.schedule.specs.Plan.{Plan}
use Rattle.schedule.specs.Scratch.{acts_at}
use Rattle.desk_events.specs.declared.mark.Mark.{Mark}

-- generation g of branch b
abbrev pub mark_at : ℕ → ℕ → Mark
mark_at b g = record { branch = b; generation = g }

-- the marks at which an intervention acts, where it is said how far each branch reaches
abbrev pub acting_marks : (ℕ → ℕ) → Intervention → List Mark
acting_marks reaches i = map (mark_at i.branch) (generations_to (reaches i.branch) i.acts)

-- where a bookmark stands
abbrev pub bookmark_mark : Bookmark → Mark
bookmark_mark b = mark_at b.branch b.generation

-- where a branch begins, and where it leaves its parent
abbrev pub branch_marks : Branch → List Mark
branch_marks x = mark_at x.id x.fork ∷ mark_at x.parent x.fork ∷ []

-- whether two marks are one
abbrev pub is_same : Mark → Mark → Bool
is_same m n = m.branch == n.branch && m.generation == n.generation

-- whether a mark is the start: generation 0 of branch 0
abbrev pub is_start : Mark → Bool
is_start m = m.branch == 0 && m.generation == 0

-- whether a branch begins at a mark, or leaves its parent there
abbrev pub forks_at : Branch → Mark → Bool
forks_at x m = (x.id == m.branch || x.parent == m.branch) && x.fork == m.generation

-- whether a bookmark stands at a mark
abbrev pub stands_at : Bookmark → Mark → Bool
stands_at b m = b.branch == m.branch && b.generation == m.generation

-- whether an intervention acts at a generation of a branch that the branch reaches
abbrev pub acts_within : Plan → Mark → Bool
acts_within p m =
    nat_le m.generation (reach p m.branch)
    && list_any (λ i. acts_at i m.branch m.generation) p.interventions

-- whether a generation of a branch is a mark
abbrev pub is_mark : Plan → Mark → Bool
is_mark p m =
    (is_start m || list_any (λ x. forks_at x m) p.branches)
    || (list_any (λ b. stands_at b m) p.bookmarks || acts_within p m)

-- the mark before another of its branch: no mark is between the two
pub record Precedes (p : Plan) (before mark : Mark) : Type 0 where
  pub branch : before.branch ≡ mark.branch
  pub below : before.generation < mark.generation
  pub is : is_mark p before ≡ true
  pub between : (g : ℕ) → before.generation < g → g < mark.generation →
      is_mark p (mark_at mark.branch g) ≡ false

-- a mark where a branch begins: the mark before it is its parent's at that generation
pub record BeginsFrom (p : Plan) (before mark : Mark) : Type 0 where
  pub above : 0 < mark.branch
  pub fork : mark.generation ≡ fork_of p.branches mark.branch
  pub parent : before.branch ≡ parent_of p.branches mark.branch
  pub same : before.generation ≡ mark.generation

-- a mark comes before another
abbrev pub ComesBefore : Plan → Mark → Mark → Type 0
ComesBefore p before mark = BeginsFrom p before mark ⊎ Precedes p before mark
