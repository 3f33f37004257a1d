-- Edits of rule, start and branches that aren't refused keep the limits of documents.
use Rattle.schedule.proofs.Names.{All, AllBelow, AllBelow-lay, AllByRecursion, AreSound, Bookmark, Bool, Branch, CanBeLaid, CellSet, HasMargin, HasMargin-lay, Intervention, IsAllowed, IsForked, IsPlaced, IsSound, List, None, Plan, Rule}
use Rattle.schedule.proofs.Names.{World, [], all_append, all_set_below, all_so, arith, blank, branch_id, cell-blank, changed_cells, false, first_refusal, for_branch, for_cells, for_removed_branch, for_rule, for_start, has_branch, is_in_use}
use Rattle.schedule.proofs.Names.{lay, length-append, lies_below, lies_near, marks_to, next_branch, not, opening, reach, refl, repeat_marks, revised, set_below, spent, states_of, states_of-still, still, subst, sym, true, with_branch}
use Rattle.schedule.proofs.Names.{without, without_branch, ℕ, ◌++◌, ◌+◌, ◌<◌, ◌==◌, ◌^◌, ◌∷◌, ◌≡◌, ◌≤◌}
use Rattle.schedule.proofs.Shared.History.{CanBeLaid-named}
use Rattle.schedule.proofs.Each.{each_passes}
use Rattle.schedule.proofs.Shared.Ids.{rise_push, given_push, each_filter, rise_filter, length-filter_le, all_unnamed}
use Rattle.schedule.proofs.Shared.Branches.{unused, has_branch-given, IsPlaced-more, IsPlaced-without}
use Rattle.schedule.proofs.Shared.Repeats.{sum-less, marks_to-more, reach-unforked}
use Rattle.schedule.proofs.Below.{SetBelow-test, AllBelow-lies, HasMargin-lies}
use Rattle.schedule.proofs.Unrefused.{passed, fit_cells, FitBranch, fit_branch, few_enough}

-- another rule and another start that keep the limits
IsSound-world : (p : Plan) (rule : Rule) (start : World) → IsSound p → states_of rule ≤ 256
    → AllBelow (states_of rule) start → HasMargin (2 ^ 60) start
    → AllByRecursion (IsAllowed (states_of rule)) p.interventions
    → IsSound (record (revised p) { rule = rule; start = start })
IsSound-world p rule start sound few below inside allowed = grind arith

pub IsSound-cells : (p : Plan) (cells : List CellSet) → IsSound p → first_refusal (for_cells p cells) ≡ None
    → IsSound (changed_cells p cells).plan
IsSound-cells p cells sound free =
    let fit = fit_cells p cells (spent p) free in
    IsSound-world p p.rule (lay cells p.start) sound sound.few_states
    (AllBelow-lay (states_of p.rule) cells p.start fit.below sound.start_below)
    (HasMargin-lay (2 ^ 60) cells p.start fit.named sound.start_inside) sound.interventions_allowed

-- a start that isn't refused
pub IsSound-start : (p : Plan) (start : World) → IsSound p → first_refusal (for_start p start) ≡ None
    → 0 < states_of p.rule → IsSound (record (revised p) { start = start })
IsSound-start p start sound free some =
    let tests : (lies_near start ≡ true) × (lies_below (states_of p.rule) start ≡ true) = grind arith in
    IsSound-world p p.rule start sound sound.few_states (AllBelow-lies (states_of p.rule) start some tests.1)
    (HasMargin-lies start tests.0) sound.interventions_allowed

still_allowed : (m n : ℕ) (is : List Intervention) → AllByRecursion (IsAllowed m) is
    → AllByRecursion (λ (i : Intervention). set_below n i.cells ≡ true) is → AllByRecursion (IsAllowed n) is
still_allowed m n [] h below = tt
still_allowed m n (i ∷ is) h below = grind (arith, SetBelow-test n i.cells, still_allowed m n is h.1 below.1)

pub IsSound-rule : (p : Plan) (rule : Rule) → IsSound p → first_refusal (for_rule p rule) ≡ None → 0 < states_of rule
    → states_of rule ≤ 256 → IsSound (record (revised p) { rule = rule })
IsSound-rule p rule sound free some few =
    let n = states_of rule in
    let tests : (lies_below n p.start ≡ true) × (all_set_below n p.interventions ≡ true) = grind arith in
    IsSound-world p rule p.start sound few (AllBelow-lies n p.start some tests.0) sound.start_inside
    (still_allowed (states_of p.rule) n p.interventions sound.interventions_allowed
    (each_passes (λ (i : Intervention). set_below n i.cells) _ p.interventions (λ i k. k) tests.1))

-- other branches that keep the limits
IsSound-branches : (p : Plan) (bs : List Branch) (last : ℕ) → IsSound p
    → repeat_marks (record (revised p) { branches = bs; last_branch = last }) ≤ 8192
    → AreSound (record (revised p) { branches = bs; last_branch = last })
    → IsSound (record (revised p) { branches = bs; last_branch = last })
IsSound-branches p bs last sound marks branches = grind arith

-- a branch that isn't refused
added : (p : Plan) (parent generation : ℕ) → AreSound p → FitBranch p parent generation
    → AreSound (with_branch p parent generation).plan
added p parent generation sound fit =
    let x : Branch = next_branch p parent generation in
    let bs : List Branch = p.branches ++ x ∷ [] in
    let long = length-append p.branches (x ∷ []) in
    let lesser = has_branch-given p.branches p.last_branch parent sound.given fit.placed.there in
    let stays : (b g : ℕ) → IsPlaced p.branches b g → IsPlaced bs b g =
    λ b g k. IsPlaced-more p.branches x p.last_branch b g sound.given (omega arith) k in
    let forked : IsForked bs x = record {
      later = omega (arith, lesser);
      placed = stays parent generation fit.placed;
      near = fit.near;
    } in record {
      forked = all_append (IsForked bs) p.branches (x ∷ []) (all_so _ _ p.branches
          (λ y k. record { later = k.later; placed = stays y.parent y.fork k.placed; near = k.near }) sound.forked)
          (forked, tt);
      rise = rise_push branch_id p.branches x p.last_branch sound.rise sound.given (omega arith);
      given = given_push branch_id p.branches x p.last_branch sound.given refl;
      few = (let few = fit.few in omega (arith, long, few));
      within = (let within = sound.within in omega (arith, within));
      interventions_placed = all_so _ _ p.interventions (λ i k. stays _ _ k) sound.interventions_placed;
      bookmarks_placed = all_so _ _ p.bookmarks (λ b k. stays _ _ k) sound.bookmarks_placed;
    }

pub IsSound-branch : (p : Plan) (parent generation : ℕ) → IsSound p
    → first_refusal (for_branch p parent generation) ≡ None → IsSound (with_branch p parent generation).plan
IsSound-branch p parent generation sound free =
    let fit = fit_branch p parent generation free in
    IsSound-branches p (p.branches ++ next_branch p parent generation ∷ []) (p.last_branch + 1) sound
    (few_enough (with_branch p parent generation).plan fit.marks.few)
    (added p parent generation sound.branches_sound fit)

-- a branch that isn't in use, removed
removed : (p : Plan) (n : ℕ) → AreSound p → is_in_use p n ≡ false → AreSound (without_branch p n).plan
removed p n sound free =
    let c : Branch → Bool = λ x. not (x.id == n) in
    let none = unused p n free in
    let stays : (b g : ℕ) → (b == n) ≡ false → IsPlaced p.branches b g → IsPlaced (without branch_id p.branches n) b g =
    λ b g other k. IsPlaced-without p.branches n b g other k in
    let long = length-filter_le c p.branches in record {
      forked = each_filter _ c p.branches (all_unnamed (λ (x : Branch). x.parent) _ _ p.branches n
          (λ x other k. record { later = k.later; placed = stays x.parent x.fork other k.placed; near = k.near })
          none.children sound.forked);
      rise = rise_filter branch_id c p.branches sound.rise;
      given = each_filter _ c p.branches sound.given;
      few = (let few = sound.few in omega (arith, long, few));
      within = (let within = sound.within in omega (arith, within));
      interventions_placed = all_unnamed (λ (i : Intervention). i.branch) _ _ p.interventions n
          (λ i other k. stays _ _ other k) none.interventions sound.interventions_placed;
      bookmarks_placed = all_unnamed (λ (b : Bookmark). b.branch) _ _ p.bookmarks n
          (λ b other k. stays _ _ other k) none.bookmarks sound.bookmarks_placed;
    }

-- without it there are no more marks
few_unforked : (p : Plan) (n : ℕ) → AreSound p → is_in_use p n ≡ false → repeat_marks p ≤ 8192
    → repeat_marks (without_branch p n).plan ≤ 8192
few_unforked p n sound free few =
    let q : Plan = (without_branch p n).plan in
    let less = sum-less (λ (i : Intervention). marks_to (reach q i.branch) i.acts)
    (λ i. marks_to (reach p i.branch) i.acts) p.interventions
    (all_unnamed (λ (i : Intervention). i.branch) _ _ p.interventions n
    (λ i other _. marks_to-more i.acts (reach q i.branch) (reach p i.branch) (reach-unforked p n i.branch other))
    (unused p n free).interventions sound.interventions_placed) in
    omega (arith, less, few)

pub IsSound-removed_branch : (p : Plan) (n : ℕ) → IsSound p → first_refusal (for_removed_branch p n) ≡ None
    → IsSound (without_branch p n).plan
IsSound-removed_branch p n sound free =
    let there = passed (not (has_branch p.branches n)) _ _ free in
    let used = passed (is_in_use p n) _ _ there.1 in
    IsSound-branches p (without branch_id p.branches n) p.last_branch sound
    (few_unforked p n sound.branches_sound used.0 sound.few_marks)
    (removed p n sound.branches_sound used.0)

sound_opening : (revision : ℕ) → IsSound (opening revision)
sound_opening revision = grind (arith, states_of-still, cell-blank)

pub IsSound-opening : (rule : Rule) (start : World) (is : List Intervention) (bs : List Bookmark) (xs : List Branch)
    (revision : ℕ) → rule ≡ still → start ≡ blank → is ≡ [] → bs ≡ [] → xs ≡ []
    → IsSound (record (opening revision) {
      rule = rule;
      start = start;
      interventions = is;
      bookmarks = bs;
      branches = xs;
    })
IsSound-opening rule start is bs xs revision e f g h k =
    let same : opening revision ≡ record (opening revision)
    { rule = rule; start = start; interventions = is; bookmarks = bs; branches = xs } =
    λ i. record (opening revision) {
      rule = sym e i;
      start = sym f i;
      interventions = sym g i;
      bookmarks = sym h i;
      branches = sym k i;
    } in
    subst IsSound same (sound_opening revision)

-- a plane takes cells that aren't refused
pub CanBeLaid-fit : (p : Plan) (cells : List CellSet) → states_of p.rule ≤ 256
    → first_refusal (for_cells p cells) ≡ None → All CanBeLaid cells
CanBeLaid-fit p cells few free = let fit = fit_cells p cells (spent p) free in
    CanBeLaid-named (states_of p.rule) cells few fit.named fit.below
