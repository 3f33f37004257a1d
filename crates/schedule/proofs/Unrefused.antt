-- What holds where an edit isn't refused: of the cells, the generations and the branches that it names, of the
-- marks, and of the revision.
use Rattle.schedule.proofs.Names.{Acts, AreNamed, Bool, CellSet, IsPlaced, IsTimely, KeepsViewLimits, List, None, Option, Plan, Rule, SetBelow, Some, View, acts_too_far, arith, changed_bookmarks, false, first_of, first_refusal}
use Rattle.schedule.proofs.Names.{for_bookmark, for_branch, for_cells_before, for_changed, for_changed_intervention, for_inserted, for_intervention}
use Rattle.schedule.proofs.Names.{for_marks, for_moved_bookmark, for_rule, for_view, fork_of, has_branch, if◌then◌else◌, intervention_branch}
use Rattle.schedule.proofs.Names.{is_bad_repeat, is_before_fork, is_too_far, leb-false, length, ltb-false, nat_le, nat_tests, not}
use Rattle.schedule.proofs.Names.{not-false, refl, repeat_marks, repeats, spent, states_of, true, unwrap_or, with_branch, with_changed_intervention}
use Rattle.schedule.proofs.Names.{with_intervention, ℕ, ◌&&◌, ◌+◌, ◌<◌, ◌^◌, ◌∷◌, ◌≡◌, ◌≤◌}
use Rattle.schedule.specs.declared.fault.EditFault.{EditFault}
use Rattle.schedule.specs.declared.fault.EditFault.TheVariants.{GenerationTooFar, BadRepeat, BeforeFork, NoSuchBranch, TooManyInterventions, TooManyBookmarks, TooManyBranches}
use Rattle.schedule.specs.Repeats.{has_too_many_marks}
use Rattle.schedule.proofs.Below.{AreNamed-stay, SetBelow-test}

pub passed : (b : Bool) (fault : EditFault) (rest : Option EditFault) → (if b then Some fault else rest) ≡ None
    → (b ≡ false) × (rest ≡ None)
passed true fault rest h = absurd cc
passed false fault rest h = (refl, h)

-- cells that aren't refused, and what else isn't
pub record FitCells (p : Plan) (cells : List CellSet) (others : List (Bool × EditFault)) : Type 0 where
  pub few : length cells ≤ 10000
  pub named : AreNamed cells
  pub below : SetBelow (states_of p.rule) cells
  pub rest : first_refusal others ≡ None

pub fit_cells : (p : Plan) (cells : List CellSet) (others : List (Bool × EditFault))
    → first_refusal (for_cells_before p cells others) ≡ None → FitCells p cells others
fit_cells p cells others h =
    grind (arith, nat_tests, AreNamed-stay cells, SetBelow-test (states_of p.rule) cells)

-- marks that aren't refused, nor another revision
pub record FitMarks (more : Bool) (p q : Plan) : Type 0 where
  pub few : (more && has_too_many_marks q) ≡ false
  pub left : p.revision + 1 < 2 ^ 64

pub fit_marks : (more : Bool) (p q : Plan) → first_refusal (for_marks more p q) ≡ None → FitMarks more p q
fit_marks more p q h = grind (arith, nat_tests)

-- nor one more revision
pub fit_spent : (p : Plan) → first_refusal (spent p) ≡ None → p.revision + 1 < 2 ^ 64
fit_spent p h = grind (arith, nat_tests)

-- nor a bookmark at another generation
pub fit_moved : (p : Plan) (id generation : ℕ) → first_refusal (for_moved_bookmark p id generation) ≡ None
    → p.revision + 1 < 2 ^ 64
fit_moved p id generation h = grind (arith, nat_tests)

-- nor another rule
pub fit_rule : (p : Plan) (rule : Rule) → first_refusal (for_rule p rule) ≡ None → p.revision + 1 < 2 ^ 64
fit_rule p rule h = grind (arith, nat_tests)

pub few_enough : (q : Plan) → has_too_many_marks q ≡ false → repeat_marks q ≤ 8192
unfolding has_too_many_marks
few_enough q few = ltb-false 8192 (repeat_marks q) few

pub near : (generation : ℕ) → is_too_far generation ≡ false → generation ≤ 2 ^ 60
near generation far = ltb-false (2 ^ 60) generation far

-- a branch that is there, and a generation that isn't refused
pub placed : (p : Plan) (b generation : ℕ) → has_branch p.branches b ≡ true → is_before_fork p b generation ≡ false
    → IsPlaced p.branches b generation
placed p b generation there late = record {
  there = there;
  from_fork = ltb-false generation (fork_of p.branches b) late;
}

-- a place for a bookmark or a branch that isn't refused, and what else isn't
pub record FitPlace (p : Plan) (b generation : ℕ) (others : List (Bool × EditFault)) : Type 0 where
  pub near : generation ≤ 2 ^ 60
  pub placed : IsPlaced p.branches b generation
  pub rest : first_refusal others ≡ None

fit_place : (p : Plan) (b generation : ℕ) (others : List (Bool × EditFault))
    → first_refusal ((not (has_branch p.branches b), NoSuchBranch) ∷ (is_too_far generation, GenerationTooFar)
    ∷ (is_before_fork p b generation, BeforeFork) ∷ others) ≡ None → FitPlace p b generation others
fit_place p b generation others h = grind (arith, nat_tests)

-- when an intervention that isn't refused acts
timely : (acts : Acts) → acts_too_far acts ≡ false → is_bad_repeat acts ≡ false → IsTimely acts
timely acts far bad = grind (arith, nat_tests)

pub record FitActs (p : Plan) (b : ℕ) (acts : Acts) (others : List (Bool × EditFault)) : Type 0 where
  pub timely : IsTimely acts
  pub late : is_before_fork p b (first_of acts) ≡ false
  pub rest : first_refusal others ≡ None

fit_acts : (p : Plan) (b : ℕ) (acts : Acts) (others : List (Bool × EditFault))
    → first_refusal ((acts_too_far acts, GenerationTooFar) ∷ (is_bad_repeat acts, BadRepeat)
    ∷ (is_before_fork p b (first_of acts), BeforeFork) ∷ others) ≡ None → FitActs p b acts others
fit_acts p b acts others h = grind (arith, timely acts)

-- one more intervention that isn't refused
pub record FitInsertion (p : Plan) (b : ℕ) (acts : Acts) (cells : List CellSet) : Type 0 where
  pub placed : IsPlaced p.branches b (first_of acts)
  pub timely : IsTimely acts
  pub few : length p.interventions < 4096
  pub set : FitCells p cells (for_inserted p b acts cells)
  pub marks : FitMarks (repeats acts) p (with_intervention p b acts cells).plan

pub fit_insertion : (p : Plan) (b : ℕ) (acts : Acts) (cells : List CellSet)
    → first_refusal (for_intervention p b acts cells) ≡ None → FitInsertion p b acts cells
fit_insertion p b acts cells h =
    let there = passed (not (has_branch p.branches b)) _ _ h in
    let at = fit_acts p b acts ((nat_le 4096 (length p.interventions), TooManyInterventions)
    ∷ for_cells_before p cells (for_inserted p b acts cells)) there.1 in
    let many = passed (nat_le 4096 (length p.interventions)) _ _ at.rest in
    let set = fit_cells p cells (for_inserted p b acts cells) many.1 in
    let marks = fit_marks (repeats acts) p (with_intervention p b acts cells).plan set.rest in
    let placed = placed p b (first_of acts) in
    record {
      placed = placed (not-false (has_branch p.branches b) there.0) at.late;
      timely = at.timely;
      few = leb-false 4096 (length p.interventions) many.0;
      set = set;
      marks = marks;
    }

-- a changed intervention that isn't
pub record FitChange (p : Plan) (id : ℕ) (acts : Acts) (cells : List CellSet) : Type 0 where
  pub late : is_before_fork p (unwrap_or (intervention_branch p.interventions id) 0) (first_of acts) ≡ false
  pub timely : IsTimely acts
  pub set : FitCells p cells (for_changed p id acts cells)
  pub marks : FitMarks (repeats acts) p (with_changed_intervention p id acts cells).plan

pub fit_change : (p : Plan) (id : ℕ) (acts : Acts) (cells : List CellSet)
    → first_refusal (for_changed_intervention p id acts cells) ≡ None → FitChange p id acts cells
fit_change p id acts cells h =
    let b = intervention_branch p.interventions id in
    let at = fit_acts p (unwrap_or b 0) acts (for_cells_before p cells (for_changed p id acts cells)) in
    let set = fit_cells p cells (for_changed p id acts cells) in
    let marks = fit_marks (repeats acts) p (with_changed_intervention p id acts cells).plan in
    grind (arith, at, set, marks)

-- one more bookmark that isn't
pub record FitBookmark (p : Plan) (b generation : ℕ) (view : View) : Type 0 where
  pub near : generation ≤ 2 ^ 60
  pub placed : IsPlaced p.branches b generation
  pub few : length p.bookmarks < 4096
  pub within : KeepsViewLimits view
  pub marks : FitMarks true p (changed_bookmarks p b generation view).plan

pub fit_bookmark : (p : Plan) (b generation : ℕ) (view : View)
    → first_refusal (for_bookmark p b generation view) ≡ None → FitBookmark p b generation view
fit_bookmark p b generation view h =
    let place = fit_place p b generation ((nat_le 4096 (length p.bookmarks), TooManyBookmarks)
    ∷ for_view p b generation view) in
    let marks = fit_marks true p (changed_bookmarks p b generation view).plan in
    grind (arith, nat_tests, place, marks)

-- one more branch that isn't
pub record FitBranch (p : Plan) (parent generation : ℕ) : Type 0 where
  pub near : generation ≤ 2 ^ 60
  pub placed : IsPlaced p.branches parent generation
  pub few : length p.branches < 64
  pub marks : FitMarks true p (with_branch p parent generation).plan

pub fit_branch : (p : Plan) (parent generation : ℕ) → first_refusal (for_branch p parent generation) ≡ None
    → FitBranch p parent generation
fit_branch p parent generation h =
    let place = fit_place p parent generation ((nat_le 64 (length p.branches), TooManyBranches)
    ∷ for_marks true p (with_branch p parent generation).plan) in
    let marks = fit_marks true p (with_branch p parent generation).plan in
    grind (arith, nat_tests, place, marks)
