-- The edits that insert the interventions of a document, or skip ids, aren't refused.
use Rattle.replay_laws.proofs.Names.{Acts, AllByRecursion, CellSet, Insert, Intervention, IsAllowed, IsMade, IsPlaced, IsSound, Lead, List, None, Plan, RemoveIntervention, [], acts_too_far, add_intervention, all_pass, all_so, ap, ap₂}
use Rattle.replay_laws.proofs.Names.{arith, bookmark_id, false, fork_of-zero, intervention_id, is_bad_repeat, last_id, length, may_be_named, nat_lt, nat_tests, next_intervention, pos, reach, refl, refusal, repeat_marks}
use Rattle.replay_laws.proofs.Names.{skip_intervention, states_of, stay_in_range, sum_by, sym, true, with_intervention, ℕ, ◌++◌, ◌+◌, ◌<◌, ◌^◌, ◌∷◌, ◌≡◌, ◌≤◌}
use Rattle.std.proofs.lemmas.List.Sums.{sum_by-append, sum_by-cons, sum_by_push}
use Rattle.schedule.specs.declared.acts.Acts.TheVariants.{Once}
use Rattle.schedule.specs.Acts.{IsTimely, first_of, marks_to}
use Rattle.replay_laws.proofs.Branches.{few_marks}
use Rattle.replay_laws.proofs.Bookmarks.{with_bookmarks}
use Rattle.replay_laws.proofs.Elements.{at_cut, fewer_before, there_last, without_last}
use Rattle.replay_laws.proofs.Shared.Leading.{Adds}
use Rattle.replay_laws.proofs.Shared.Worlds.{named, some_states}

-- the document with rule, start, branches and bookmarks, and these interventions
abbrev pub with_interventions : Plan → ℕ → List Intervention → ℕ → Plan
with_interventions p k done last = record (with_bookmarks p k p.bookmarks (last_id bookmark_id 0 p.bookmarks)) {
  interventions = done;
  last_intervention = last;
}

-- the tests of when it acts
timely : (acts : Acts) → IsTimely acts → (acts_too_far acts ≡ false) × (is_bad_repeat acts ≡ false)
timely acts h = grind (arith, nat_tests)

-- there are no more marks than those of the document
marks_before : (p : Plan) → IsSound p → (done : List Intervention) (x : Intervention) (rest : List Intervention)
    (k last : ℕ) → done ++ x ∷ rest ≡ p.interventions
    → repeat_marks (with_intervention (with_interventions p k done last) x.branch x.acts x.cells).plan ≤ 8192
marks_before p sound done x rest k last is =
    let f : Intervention → ℕ = λ i. marks_to (reach p i.branch) i.acts in
    let y : Intervention = next_intervention (with_interventions p k done last) x.branch x.acts x.cells in
    let most : repeat_marks p ≤ 8192 = sound.few_marks in
    let all : sum_by f (done ++ x ∷ rest) ≡ repeat_marks p = ap (sum_by f) is in
    omega (arith, most, all, sum_by-append f done (x ∷ rest), sum_by-cons f x rest, sum_by_push f done y)

add_one : (p : Plan) → IsSound p → IsMade p → (done : List Intervention) (x : Intervention) (rest : List Intervention)
    (k last : ℕ) → done ++ x ∷ rest ≡ p.interventions → last + 1 ≡ x.id → k + 1 < 2 ^ 64
    → Lead (add_intervention x ∷ []) (with_interventions p k done last)
    (with_interventions p (k + 1) (done ++ x ∷ []) x.id)
add_one p sound made done x rest k last is next left =
    let q : Plan = with_interventions p k done last in
    let allowed = at_cut (IsAllowed (states_of p.rule)) p.interventions done x rest is sound.interventions_allowed in
    let small : length x.cells ≤ 10000 = at_cut _ p.interventions done x rest is made.few_cells in
    let placed : IsPlaced p.branches x.branch (first_of x.acts) =
    at_cut _ p.interventions done x rest is sound.branches_sound.interventions_placed in
    let tests = timely x.acts allowed.timely in
    let r : Plan = (with_intervention q x.branch x.acts x.cells).plan in
    let marks = few_marks r (marks_before p sound done x rest k last is) in
    let few = fewer_before p.interventions done x rest 4096 is sound.few_interventions in
    let named : stay_in_range x.cells ≡ true =
    all_pass may_be_named _ x.cells (λ c h. named c.x c.y h) allowed.named in
    let below = all_pass (λ (c : CellSet). nat_lt c.state (states_of p.rule)) _ x.cells
    (λ c h. grind (arith, nat_tests)) allowed.below in
    let free : refusal q (add_intervention x) ≡ None =
    grind (arith, nat_tests, placed.there, placed.from_fork, tests, few, small, named, below, marks) in
    (free, ap (λ n. with_interventions p (k + 1) (done ++ (record x { id = n }) ∷ []) n) (sym next))

abbrev origin : List CellSet
origin = record { x = pos 0; y = pos 0; state = 0 } ∷ []

skip_one : (p : Plan) → IsSound p → (done : List Intervention) (x : Intervention) (rest : List Intervention)
    (k last : ℕ) → done ++ x ∷ rest ≡ p.interventions → last + 1 < x.id
    → AllByRecursion (λ (y : Intervention). y.id ≤ last) done → k + 2 < 2 ^ 64
    → Lead (skip_intervention (last + 1)) (with_interventions p k done last)
    (with_interventions p (k + 2) done (last + 1))
skip_one p sound done x rest k last is gap given left =
    let q : Plan = with_interventions p k done last in
    let y : Intervention = next_intervention q 0 (Once 0) origin in
    let more : List Intervention = done ++ y ∷ [] in
    let r : Plan = with_interventions p (k + 1) more (last + 1) in
    let kept = without_last intervention_id done y (last + 1) (all_so _ _ done (λ z h. omega (arith, h)) given) refl in
    let root = fork_of-zero p.branches sound.branches_sound.forked in
    let few = fewer_before p.interventions done x rest 4096 is sound.few_interventions in
    let some = some_states p sound in
    let free : refusal q (Insert 0 (Once 0) origin) ≡ None = grind (arith, nat_tests, root, few, some) in
    let there = there_last intervention_id done y (last + 1) refl in
    let gone : refusal r (RemoveIntervention (last + 1)) ≡ None = grind (arith, nat_tests, there) in
    (free, (gone, ap₂ (λ a bs. with_interventions p a bs (last + 1)) (omega arith) (sym kept)))

pub interventions_added : (p : Plan) → IsSound p → IsMade p
    → Adds intervention_id skip_intervention add_intervention (with_interventions p) p.interventions
interventions_added p sound made = record {
  adds = add_one p sound made;
  skips = skip_one p sound;
  two = λ n. refl;
}
