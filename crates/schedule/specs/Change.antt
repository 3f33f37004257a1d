-- What an edit makes of a document, and why it is refused.
use Rattle.std.specs.Prelude.{◌≡◌, ℕ, ◌+◌, ◌-◌, ◌^◌, ◌&&◌, ◌||◌, ◌==◌, is_none, Bool, false, true, not, nat_lt, nat_le, int_le, int_lt, List, [], ◌∷◌, ◌++◌, length, ℤ, pos, neg_ℤ, Option, None, Some}
use Rattle.std.specs.Prelude.{Result, Ok, Err, MatchResult, if◌then◌else◌}
use Rattle.std.specs.List.{list_all}
use Rattle.std.specs.Option.{unwrap_or}
use Rattle.worlds.specs.declared.cell.CellSet.{CellSet}
use Rattle.worlds.specs.World.{World}
use Rattle.worlds.specs.Lay.{lay}
use Rattle.worlds.specs.Live.{live}
use Rattle.rule_tree.specs.declared.rule.Rule.{Rule}
use Rattle.rule_tree.specs.Rule.{states_of}
use Rattle.schedule.specs.declared.document.Intervention.{Intervention}
use Rattle.schedule.specs.declared.edit.Edited.{Edited}
use Rattle.schedule.specs.declared.fault.EditFault.{EditFault}
use Rattle.schedule.specs.declared.fault.EditFault.TheVariants.{GenerationTooFar, CellOutOfRange, CellStateTooHigh, NoSuchIntervention, NoSuchBookmark, TooManyInterventions, TooManyBookmarks}
use Rattle.schedule.specs.declared.fault.EditFault.TheVariants.{TooManyCells, BadWindow, RevisionSpent, NoSuchBranch, BeforeFork, BranchInUse, TooManyBranches, TooManyMarks, BadRepeat}
use Rattle.bookmarks.specs.declared.view.View.{View}
use Rattle.bookmarks.specs.Within.{has_window_size, lies_in_range}
use Rattle.schedule.specs.Plan.{Plan}
use Rattle.schedule.specs.Asked.{Asked, Insert, Change, RemoveIntervention, SetCells, ReplaceStart, ReplaceRule, AddBookmark, MoveBookmark, RemoveBookmark, AddBranch, RemoveBranch}
use Rattle.schedule.specs.Acts.{repeats, first_of}
use Rattle.schedule.specs.Repeats.{has_too_many_marks}
use Rattle.schedule.specs.declared.acts.Acts.{Acts}
use Rattle.schedule.specs.declared.acts.Acts.TheVariants.{Once, Every}
use Rattle.schedule.specs.Ids.{intervention_id, bookmark_id, branch_id, has_id, changed_at, without}
use Rattle.schedule.specs.Branches.{has_branch, fork_of, intervention_branch, bookmark_branch, has_interventions, has_bookmarks, has_children}
use Rattle.schedule.specs.declared.document.Bookmark.{Bookmark}
use Rattle.schedule.specs.declared.branch.Branch.{Branch}

-- the document after an edit, and what the edit answers
pub record Changed : Type 0 where
  pub plan : Plan
  pub edited : Edited

abbrev pub made : Plan → Edited → Changed
made plan edited = record { plan = plan; edited = edited }

-- the document with one more revision
abbrev pub revised : Plan → Plan
revised p = record p { revision = p.revision + 1 }

-- what an edit answers that gives no id
abbrev pub answered : Plan → Edited
answered p = record { revision = p.revision + 1; id = None }

-- the intervention that gets the next id
abbrev pub next_intervention : Plan → ℕ → Acts → List CellSet → Intervention
next_intervention p b acts cells = record {
  id = p.last_intervention + 1;
  branch = b;
  acts = acts;
  cells = cells;
}

-- the document with one more intervention
abbrev pub with_intervention : Plan → ℕ → Acts → List CellSet → Changed
with_intervention p b acts cells = record {
  plan = record (revised p) {
    interventions = p.interventions ++ next_intervention p b acts cells ∷ [];
    last_intervention = p.last_intervention + 1;
  };
  edited = record { revision = p.revision + 1; id = Some (p.last_intervention + 1) };
}

-- an intervention that acts then, with these cells
abbrev pub acting : Acts → List CellSet → Intervention → Intervention
acting acts cells i = record i { acts = acts; cells = cells }

-- the document with the intervention of an id acting then, with these cells
abbrev pub with_changed_intervention : Plan → ℕ → Acts → List CellSet → Changed
with_changed_intervention p id acts cells = record {
  plan = record (revised p) {
    interventions = changed_at intervention_id (acting acts cells) p.interventions id;
  };
  edited = answered p;
}

-- the document without the intervention of an id
abbrev pub without_intervention : Plan → ℕ → Changed
without_intervention p id = record {
  plan = record (revised p) { interventions = without intervention_id p.interventions id };
  edited = answered p;
}

-- the document with these cells of the start set
abbrev pub changed_cells : Plan → List CellSet → Changed
changed_cells p cells = record {
  plan = record (revised p) { start = lay cells p.start };
  edited = answered p;
}

-- the document with this start
abbrev pub changed_start : Plan → World → Changed
changed_start p start = record {
  plan = record (revised p) { start = start };
  edited = answered p;
}

-- the document with this rule
abbrev pub changed_rule : Plan → Rule → Changed
changed_rule p rule = record {
  plan = record (revised p) { rule = rule };
  edited = answered p;
}

-- the bookmark that gets the next id
abbrev pub next_bookmark : Plan → ℕ → ℕ → View → Bookmark
next_bookmark p b generation view = record {
  id = p.last_bookmark + 1;
  branch = b;
  generation = generation;
  view = view;
}

-- the document with one more bookmark
abbrev pub changed_bookmarks : Plan → ℕ → ℕ → View → Changed
changed_bookmarks p b generation view = record {
  plan = record (revised p) {
    bookmarks = p.bookmarks ++ next_bookmark p b generation view ∷ [];
    last_bookmark = p.last_bookmark + 1;
  };
  edited = record { revision = p.revision + 1; id = Some (p.last_bookmark + 1) };
}

-- a bookmark at this generation
abbrev pub marking : ℕ → Bookmark → Bookmark
marking generation b = record b { generation = generation }

-- the document with the bookmark of an id at this generation
abbrev pub with_moved_bookmark : Plan → ℕ → ℕ → Changed
with_moved_bookmark p id generation = record {
  plan =
      record (revised p) { bookmarks = changed_at bookmark_id (marking generation) p.bookmarks id };
  edited = answered p;
}

-- the document without the bookmark of an id
abbrev pub without_bookmark : Plan → ℕ → Changed
without_bookmark p id = record {
  plan = record (revised p) { bookmarks = without bookmark_id p.bookmarks id };
  edited = answered p;
}

-- the branch that gets the next id
abbrev pub next_branch : Plan → ℕ → ℕ → Branch
next_branch p parent generation = record {
  id = p.last_branch + 1;
  parent = parent;
  fork = generation;
}

-- the document with one more branch
abbrev pub with_branch : Plan → ℕ → ℕ → Changed
with_branch p parent generation = record {
  plan = record (revised p) {
    branches = p.branches ++ next_branch p parent generation ∷ [];
    last_branch = p.last_branch + 1;
  };
  edited = record { revision = p.revision + 1; id = Some (p.last_branch + 1) };
}

-- the document without a branch
abbrev pub without_branch : Plan → ℕ → Changed
without_branch p b = record {
  plan = record (revised p) { branches = without branch_id p.branches b };
  edited = answered p;
}

-- a generation beyond 2^60
abbrev pub is_too_far : ℕ → Bool
is_too_far generation = nat_lt (2 ^ 60) generation

-- an intervention would act beyond it
abbrev pub acts_too_far : Acts → Bool
acts_too_far (Once generation) = is_too_far generation
acts_too_far (Every first every last) = is_too_far first || is_too_far last

-- it would repeat at a distance of 0, or end before it begins
abbrev pub is_bad_repeat : Acts → Bool
is_bad_repeat (Once generation) = false
is_bad_repeat (Every first every last) = every == 0 || nat_lt last first

-- a generation below the fork of a branch
abbrev pub is_before_fork : Plan → ℕ → ℕ → Bool
is_before_fork p b generation = nat_lt generation (fork_of p.branches b)

-- a coordinate that a named cell may have, from -2^60 up to but not including 2^60
abbrev pub is_named : ℤ → Bool
is_named z = int_le (neg_ℤ (pos (2 ^ 60))) z && int_lt z (pos (2 ^ 60))

-- a cell that an edit may name, by its place
abbrev pub may_be_named : CellSet → Bool
may_be_named c = is_named c.x && is_named c.y

-- every cell may be
abbrev pub stay_in_range : List CellSet → Bool
stay_in_range cells = list_all may_be_named cells

-- every cell's state is below n
abbrev pub set_below : ℕ → List CellSet → Bool
set_below n cells = list_all (λ (c : CellSet). nat_lt c.state n) cells

-- every live cell lies where an edit may name it
abbrev pub lies_near : World → Bool
lies_near w = list_all (λ e. is_named e.0.1 && is_named e.0.0) (live w)

-- every live cell's state is below n
abbrev pub lies_below : ℕ → World → Bool
lies_below n w = list_all (λ e. nat_lt e.1 n) (live w)

-- every intervention sets states below n alone
abbrev pub all_set_below : ℕ → List Intervention → Bool
all_set_below n interventions = list_all (λ (i : Intervention). set_below n i.cells) interventions

-- the refusal for want of another revision, with whether it applies
abbrev pub spent : Plan → List (Bool × EditFault)
spent p = (nat_le (2 ^ 64 - 1) p.revision, RevisionSpent) ∷ []

-- and that for marks before it, where the edit may make more of them, and q is the document as it
-- would be
abbrev pub for_marks : Bool → Plan → Plan → List (Bool × EditFault)
for_marks more p q = (more && has_too_many_marks q, TooManyMarks) ∷ spent p

-- the refusals of setting cells in the order in which they are looked at, each with whether it
-- applies, and others after them
abbrev pub for_cells_before :
    Plan → List CellSet → List (Bool × EditFault) → List (Bool × EditFault)
for_cells_before p cells others =
    (nat_lt 10000 (length cells), TooManyCells)
    ∷ (not (stay_in_range cells), CellOutOfRange)
    ∷ (not (set_below (states_of p.rule) cells), CellStateTooHigh)
    ∷ others

-- those of setting cells of the start
abbrev pub for_cells : Plan → List CellSet → List (Bool × EditFault)
for_cells p cells = for_cells_before p cells (spent p)

-- those of an intervention more that are looked at last
abbrev pub for_inserted : Plan → ℕ → Acts → List CellSet → List (Bool × EditFault)
for_inserted p b acts cells = for_marks (repeats acts) p (with_intervention p b acts cells).plan

-- those of another intervention in its place
abbrev pub for_changed : Plan → ℕ → Acts → List CellSet → List (Bool × EditFault)
for_changed p id acts cells =
    for_marks (repeats acts) p (with_changed_intervention p id acts cells).plan

-- those of a bookmark more
abbrev pub for_view : Plan → ℕ → ℕ → View → List (Bool × EditFault)
for_view p b generation view =
    (not (has_window_size view), BadWindow)
    ∷ (not (lies_in_range view), CellOutOfRange)
    ∷ for_marks true p (changed_bookmarks p b generation view).plan

-- those of inserting an intervention into a branch
abbrev pub for_intervention : Plan → ℕ → Acts → List CellSet → List (Bool × EditFault)
for_intervention p b acts cells =
    (not (has_branch p.branches b), NoSuchBranch)
    ∷ (acts_too_far acts, GenerationTooFar)
    ∷ (is_bad_repeat acts, BadRepeat)
    ∷ (is_before_fork p b (first_of acts), BeforeFork)
    ∷ (nat_le 4096 (length p.interventions), TooManyInterventions)
    ∷ for_cells_before p cells (for_inserted p b acts cells)

-- those of changing an intervention, where its branch is known if it is there, and what is looked
-- at last
abbrev pub for_acting :
    Plan → Option ℕ → Acts → List CellSet → List (Bool × EditFault) → List (Bool × EditFault)
for_acting p b acts cells others =
    (is_none b, NoSuchIntervention)
    ∷ (acts_too_far acts, GenerationTooFar)
    ∷ (is_bad_repeat acts, BadRepeat)
    ∷ (is_before_fork p (unwrap_or b 0) (first_of acts), BeforeFork)
    ∷ for_cells_before p cells others

-- those of changing the intervention of an id
abbrev pub for_changed_intervention : Plan → ℕ → Acts → List CellSet → List (Bool × EditFault)
for_changed_intervention p id acts cells =
    for_acting p (intervention_branch p.interventions id) acts cells (for_changed p id acts cells)

-- those of removing it
abbrev pub for_removed_intervention : Plan → ℕ → List (Bool × EditFault)
for_removed_intervention p id =
    (not (has_id intervention_id p.interventions id), NoSuchIntervention) ∷ spent p

-- those of taking another start
abbrev pub for_start : Plan → World → List (Bool × EditFault)
for_start p start =
    (not (lies_near start), CellOutOfRange)
    ∷ (not (lies_below (states_of p.rule) start), CellStateTooHigh)
    ∷ spent p

-- those of taking another rule
abbrev pub for_rule : Plan → Rule → List (Bool × EditFault)
for_rule p rule = (
  not (lies_below (states_of rule) p.start && all_set_below (states_of rule) p.interventions),
  CellStateTooHigh,
)
    ∷ spent p

-- those of adding a bookmark to a branch
abbrev pub for_bookmark : Plan → ℕ → ℕ → View → List (Bool × EditFault)
for_bookmark p b generation view =
    (not (has_branch p.branches b), NoSuchBranch)
    ∷ (is_too_far generation, GenerationTooFar)
    ∷ (is_before_fork p b generation, BeforeFork)
    ∷ (nat_le 4096 (length p.bookmarks), TooManyBookmarks)
    ∷ for_view p b generation view

-- those of moving a bookmark, where its branch is known if it is there, and q is the document as
-- it would be
abbrev pub for_marking : Plan → Option ℕ → ℕ → Plan → List (Bool × EditFault)
for_marking p b generation q =
    (is_none b, NoSuchBookmark)
    ∷ (is_too_far generation, GenerationTooFar)
    ∷ (is_before_fork p (unwrap_or b 0) generation, BeforeFork)
    ∷ for_marks true p q

-- those of moving the bookmark of an id
abbrev pub for_moved_bookmark : Plan → ℕ → ℕ → List (Bool × EditFault)
for_moved_bookmark p id generation =
    for_marking p (bookmark_branch p.bookmarks id) generation
    (with_moved_bookmark p id generation).plan

-- those of removing it
abbrev pub for_removed_bookmark : Plan → ℕ → List (Bool × EditFault)
for_removed_bookmark p id = (not (has_id bookmark_id p.bookmarks id), NoSuchBookmark) ∷ spent p

-- those of adding a branch to a parent
abbrev pub for_branch : Plan → ℕ → ℕ → List (Bool × EditFault)
for_branch p parent generation =
    (not (has_branch p.branches parent), NoSuchBranch)
    ∷ (is_too_far generation, GenerationTooFar)
    ∷ (is_before_fork p parent generation, BeforeFork)
    ∷ (nat_le 64 (length p.branches), TooManyBranches)
    ∷ for_marks true p (with_branch p parent generation).plan

-- whether a branch may not be removed: it is 0, has an intervention or a bookmark, or is a parent
abbrev pub is_in_use : Plan → ℕ → Bool
is_in_use p b =
    (b == 0 || has_interventions p.interventions b)
    || (has_bookmarks p.bookmarks b || has_children p.branches b)

-- those of removing a branch
abbrev pub for_removed_branch : Plan → ℕ → List (Bool × EditFault)
for_removed_branch p b =
    (not (has_branch p.branches b), NoSuchBranch) ∷ (is_in_use p b, BranchInUse) ∷ spent p

-- those of an edit
abbrev pub refusals : Plan → Asked → List (Bool × EditFault)
refusals p (Insert b acts cells) = for_intervention p b acts cells
refusals p (Change id acts cells) = for_changed_intervention p id acts cells
refusals p (RemoveIntervention id) = for_removed_intervention p id
refusals p (SetCells cells) = for_cells p cells
refusals p (ReplaceStart start) = for_start p start
refusals p (ReplaceRule rule) = for_rule p rule
refusals p (AddBookmark b generation view) = for_bookmark p b generation view
refusals p (MoveBookmark id generation) = for_moved_bookmark p id generation
refusals p (RemoveBookmark id) = for_removed_bookmark p id
refusals p (AddBranch parent generation) = for_branch p parent generation
refusals p (RemoveBranch b) = for_removed_branch p b

-- the first that applies
abbrev pub first_refusal : List (Bool × EditFault) → Option EditFault
first_refusal [] = None
first_refusal (r ∷ rest) = if r.0 then Some r.1 else first_refusal rest

-- whether something fits is answered by them
abbrev pub Checks : {A : Type 0} → Result A EditFault → List (Bool × EditFault) → Type 0
Checks result refusals =
    MatchResult result (λ _. first_refusal refusals ≡ None)
    (λ fault. first_refusal refusals ≡ Some fault)

-- why an edit of a document is refused, if it is; 'out of memory' aside
abbrev pub refusal : Plan → Asked → Option EditFault
refusal p asked = first_refusal (refusals p asked)

-- what an edit makes of a document that it fits
abbrev pub changed : Plan → Asked → Changed
changed p (Insert b acts cells) = with_intervention p b acts cells
changed p (Change id acts cells) = with_changed_intervention p id acts cells
changed p (RemoveIntervention id) = without_intervention p id
changed p (SetCells cells) = changed_cells p cells
changed p (ReplaceStart start) = changed_start p start
changed p (ReplaceRule rule) = changed_rule p rule
changed p (AddBookmark b generation view) = changed_bookmarks p b generation view
changed p (MoveBookmark id generation) = with_moved_bookmark p id generation
changed p (RemoveBookmark id) = without_bookmark p id
changed p (AddBranch parent generation) = with_branch p parent generation
changed p (RemoveBranch b) = without_branch p b

-- the refusal, if there is one, or else the document
abbrev pub unless_refused : Option EditFault → Changed → Result Changed EditFault
unless_refused None c = Ok c
unless_refused (Some fault) c = Err fault

-- the changed document with what the edit answers, or the first refusal
abbrev pub change : Plan → Asked → Result Changed EditFault
change p asked = unless_refused (refusal p asked) (changed p asked)
