-- Steps of the way from the start to a mark.
use Rattle.desk_events.proofs.Names.{Bookmark, Branch, ComesBefore, Intervention, IsAllowed, IsSound, List, Mark, Option, Plan, Some, World, [], acts_at, acts_within, and_parts, ap, arith, arrival, arrival-undisturbed, branch_id, cells_at}
use Rattle.desk_events.proofs.Names.{cond-false, element_at, false, fork_of, forks_at, forks_rise, inl, inr, is_mark, is_start, iterate, lay, list_any, mark_at, nat_le, nat_tests, next_of, option_map_or, or_parts, own_cells, reach, refl}
use Rattle.desk_events.proofs.Names.{stands_at, states_of, step, subst, suc, sym, true, ℕ, ◌&&◌, ◌+◌, ◌-◌, ◌<◌, ◌==◌, ◌||◌, ◌∙◌, ◌∷◌, ◌≡◌, ◌≤◌}
use Rattle.schedule.proofs.Shared.Reach.{reach-greatest}
use Rattle.desk_events.proofs.Shared.Listed.{all_both, each_found}
use Rattle.desk_events.proofs.Shared.Marks.{mark_placed, marks_so}
use Rattle.desk_events.proofs.Shared.Tests.{le_true, true_eq, true_le}

pub own_cells-other : (i : Intervention) (b g : ℕ) → acts_at i b g ≡ false → own_cells i b g ≡ []
own_cells-other i b g apart = cond-false (acts_at i b g) i.cells [] apart

-- from a generation of a branch to a later one with nothing between
pub arrival-gap : (p : Plan) (b from to : ℕ) (w v u : World) → from < to → fork_of p.branches b ≤ from
    → ((k : ℕ) → from < k → k < to → cells_at p.interventions b k ≡ []) → w ≡ arrival p b from
    → u ≡ lay (cells_at p.interventions b from) w → v ≡ iterate (to - from) (step (next_of p.rule)) u
    → v ≡ arrival p b to
arrival-gap p b from to w v u later late quiet here left there =
    let n : ℕ = (to - from) - 1 in
    let gap : to - from ≡ suc n = omega arith in
    let end : from + suc n ≡ to = omega arith in
    let f = step (next_of p.rule) in
    there
    ∙ ap (λ m. iterate m f u) gap
    ∙ ap (iterate (suc n) f) (left ∙ ap (lay (cells_at p.interventions b from)) here)
    ∙ sym (arrival-undisturbed p b from n late (λ k a z. quiet k a (omega (arith, z, end))))
    ∙ ap (arrival p b) end

-- the mark before a mark stands at or above the beginning of its branch
pub before_late : (p : Plan) (n m : Mark) → IsSound p → ComesBefore p n m → fork_of p.branches n.branch ≤ n.generation
before_late p n m sound (inl begins) =
    let rise = forks_rise p.branches sound.branches_sound.forked m.branch in
    let parent : fork_of p.branches n.branch ≤ fork_of p.branches m.branch =
    subst (λ b. fork_of p.branches b ≤ fork_of p.branches m.branch) (sym begins.parent) rise in
    let here : n.generation ≡ fork_of p.branches m.branch = begins.same ∙ begins.fork in
    omega (arith, parent, here)
before_late p n m sound (inr precedes) = (mark_placed p n sound precedes.is).from_fork

-- a branch reaches its marks

fork_within : (p : Plan) (x : Branch) (m : Mark) → forks_at x m ≡ true → (element_at branch_id p.branches x.id ≡ Some x)
    × ((x.parent == m.branch) ≡ true → x.fork ≤ reach p m.branch) → m.generation ≤ reach p m.branch
fork_within p x m at k =
    let from = (reach-greatest p m.branch).from_fork in
    let same : fork_of p.branches x.id ≡ x.fork =
    ap (λ (o : Option Branch). option_map_or (λ (y : Branch). y.fork) o 0) k.0 in
    by_ids p.branches x m at from same k.1
  where
    by_ids : (branches : List Branch) (x : Branch) (m : Mark) → forks_at x m ≡ true
        → fork_of branches m.branch ≤ reach p m.branch
        → fork_of branches x.id ≡ x.fork → ((x.parent == m.branch) ≡ true → x.fork ≤ reach p m.branch)
        → m.generation ≤ reach p m.branch
    by_ids branches x m at from same far = grind (arith, nat_tests)

stands_within : (p : Plan) (b : Bookmark) (m : Mark) → stands_at b m ≡ true
    → ((b.branch == m.branch) ≡ true → b.generation ≤ reach p m.branch) → m.generation ≤ reach p m.branch
stands_within p b m at k = grind (arith, nat_tests)

-- a branch that is found by its id, and that reaches where it leaves another
abbrev FoundWithin : Plan → Mark → Branch → Type 0
FoundWithin p m x = (element_at branch_id p.branches x.id ≡ Some x)
    × ((x.parent == m.branch) ≡ true → x.fork ≤ reach p m.branch)

pub mark_within : (p : Plan) (m : Mark) → IsSound p → is_mark p m ≡ true → m.generation ≤ reach p m.branch
mark_within p m sound there =
    let far = reach-greatest p m.branch in
    marks_so p m (FoundWithin p m) (λ b. (b.branch == m.branch) ≡ true → b.generation ≤ reach p m.branch)
    (IsAllowed (states_of p.rule))
    (all_both (λ (x : Branch). element_at branch_id p.branches x.id ≡ Some x)
    (λ (x : Branch). (x.parent == m.branch) ≡ true → x.fork ≤ reach p m.branch) (FoundWithin p m) p.branches
    (λ x found leaves. (found, leaves)) (each_found branch_id p.branches sound.branches_sound.rise) far.forks)
    far.bookmarks sound.interventions_allowed
    (λ start. let low : m.generation ≡ 0 =
    true_eq m.generation 0 (and_parts (m.branch == 0) (m.generation == 0) start).1 in omega (arith, low))
    (λ x k at. fork_within p x m at k) (λ b k at. stands_within p b m at k)
    (λ i allowed near at. true_le m.generation (reach p m.branch) near) there

-- nothing is laid where no mark is

none_laid : (is : List Intervention) (b g : ℕ) → list_any (λ (i : Intervention). acts_at i b g) is ≡ false
    → cells_at is b g ≡ []
none_laid [] b g none = refl
none_laid (i ∷ is) b g none = grind (arith, none_laid is b g)

pub quiet_at : (p : Plan) (b g : ℕ) → g ≤ reach p b → is_mark p (mark_at b g) ≡ false
    → cells_at p.interventions b g ≡ []
quiet_at p b g far none =
    let m = mark_at b g in
    let acts = list_any (λ (i : Intervention). acts_at i b g) p.interventions in
    let halves = or_parts (is_start m || list_any (λ (x : Branch). forks_at x m) p.branches)
    (list_any (λ (k : Bookmark). stands_at k m) p.bookmarks || acts_within p m) none in
    let within : (nat_le g (reach p b) && acts) ≡ false =
    (or_parts (list_any (λ (k : Bookmark). stands_at k m) p.bookmarks) (acts_within p m) halves.1).1 in
    none_laid p.interventions b g (ap (λ t. t && acts) (sym (le_true g (reach p b) far)) ∙ within)
