-- The edits that add the branches of a document, or skip ids, aren't refused.
use Rattle.replay_laws.proofs.Names.{AddBranch, AllByRecursion, Branch, IdsRise, IsForked, IsPlaced, IsSound, Lead, List, None, Plan, RemoveBranch, [], add_branch, all_append, all_so, ap, ap₂, arith, bare, branch_id, false, fork_of}
use Rattle.replay_laws.proofs.Names.{fork_of-zero, has_branch, has_children, is_in_use, length, nat_tests, next_branch, refl, refusal, repeat_marks, skip_branch, subst, sym, true, with_branch, ℕ, ◌++◌, ◌+◌, ◌<◌, ◌==◌, ◌^◌, ◌∷◌, ◌≡◌}
use Rattle.replay_laws.proofs.Names.{◌≤◌}
use Rattle.schedule.specs.Repeats.{has_too_many_marks}
use Rattle.replay_laws.proofs.Elements.{all_both, all_parts, fewer_before, found_before, none_any, rise_parts, there_before, there_last, without_last}
use Rattle.replay_laws.proofs.Shared.Leading.{Adds}

-- no more marks than there may be
pub few_marks : (p : Plan) → repeat_marks p ≤ 8192 → has_too_many_marks p ≡ false
unfolding has_too_many_marks
few_marks p h = grind (arith, nat_tests)

-- the document with rule and start, and these branches
abbrev pub with_branches : Plan → ℕ → List Branch → ℕ → Plan
with_branches p k done last = record (bare k p) { branches = done; last_branch = last }

placed_before : (done rest : List Branch) (b g : ℕ) → AllByRecursion (λ (y : Branch). b < y.id) rest
    → IsPlaced (done ++ rest) b g → IsPlaced done b g
placed_before done rest b g above h = record {
  there = rw (← there_before branch_id done rest b above) h.there;
  from_fork = rw (← found_before branch_id done rest b above) h.from_fork;
}

-- where the list is cut
record IsCut (p : Plan) (done : List Branch) (x : Branch) (rest : List Branch) : Type 0 where
  before : AllByRecursion (IsForked p.branches) done
  here : IsForked p.branches x
  behind : AllByRecursion (IsForked p.branches) rest
  later : AllByRecursion (λ (y : Branch). x.id < y.id) rest
  few : length done < 64

cut : (p : Plan) → IsSound p → (done : List Branch) (x : Branch) (rest : List Branch) → done ++ x ∷ rest ≡ p.branches
    → IsCut p done x rest
cut p sound done x rest is =
    let forked = all_parts (IsForked p.branches) done (x ∷ rest)
    (subst (AllByRecursion (IsForked p.branches)) (sym is) sound.branches_sound.forked) in
    let rise = rise_parts branch_id done (x ∷ rest) (subst (IdsRise branch_id) (sym is) sound.branches_sound.rise) in
    record {
      before = forked.0;
      here = forked.1.0;
      behind = forked.1.1;
      later = rise.1.0;
      few = fewer_before p.branches done x rest 64 is sound.branches_sound.few;
    }

no_marks : (p : Plan) (k : ℕ) (done : List Branch) (last : ℕ) (parent generation : ℕ)
    → repeat_marks (with_branch (with_branches p k done last) parent generation).plan ≤ 8192
no_marks p k done last parent generation = omega arith

add_one : (p : Plan) → IsSound p → (done : List Branch) (x : Branch) (rest : List Branch) (k last : ℕ)
    → done ++ x ∷ rest ≡ p.branches → last + 1 ≡ x.id → k + 1 < 2 ^ 64
    → Lead (add_branch x ∷ []) (with_branches p k done last) (with_branches p (k + 1) (done ++ x ∷ []) x.id)
add_one p sound done x rest k last is next left =
    let q : Plan = with_branches p k done last in
    let parts = cut p sound done x rest is in
    let here = parts.here in
    let lower : x.parent < x.id = here.later in
    let above : AllByRecursion (λ (y : Branch). x.parent < y.id) rest =
    all_so _ _ rest (λ y h. omega (arith, h, lower)) parts.later in
    let placed = placed_before done (x ∷ rest) x.parent x.fork (lower, above)
    (subst (λ bs. IsPlaced bs x.parent x.fork) (sym is) here.placed) in
    let few = parts.few in
    let marks = few_marks (with_branch q x.parent x.fork).plan (no_marks p k done last x.parent x.fork) in
    let free : refusal q (AddBranch x.parent x.fork) ≡ None =
    grind (arith, nat_tests, placed.there, placed.from_fork, here.near, few, marks) in
    (free, ap (λ n. with_branches p (k + 1) (done ++ (record x { id = n }) ∷ []) n) (sym next))

skip_one : (p : Plan) → IsSound p → (done : List Branch) (x : Branch) (rest : List Branch) (k last : ℕ)
    → done ++ x ∷ rest ≡ p.branches → last + 1 < x.id → AllByRecursion (λ (y : Branch). y.id ≤ last) done
    → k + 2 < 2 ^ 64
    → Lead (skip_branch (last + 1)) (with_branches p k done last) (with_branches p (k + 2) done (last + 1))
skip_one p sound done x rest k last is gap given left =
    let q : Plan = with_branches p k done last in
    let parts = cut p sound done x rest is in
    let y : Branch = next_branch q 0 0 in
    let more : List Branch = done ++ y ∷ [] in
    let r : Plan = with_branches p (k + 1) more (last + 1) in
    let behind : AllByRecursion (λ (z : Branch). 0 < z.id) rest =
    all_so _ _ rest (λ z h. (let l = h.later in omega (arith, l))) parts.behind in
    let found = found_before branch_id done (x ∷ rest) 0 (omega (arith, gap), behind) in
    let root = fork_of-zero p.branches sound.branches_sound.forked in
    let first : fork_of done 0 ≡ 0 = rw (← found, is) root in
    let childless : has_children more (last + 1) ≡ false =
    none_any (λ (z : Branch). z.parent == last + 1) more (all_append _ done (y ∷ [])
    (all_both (IsForked p.branches) (λ (z : Branch). z.id ≤ last) _ done
    (λ z h k. (let l = h.later in grind (arith, nat_tests, l, k))) parts.before given)
    (grind (arith, nat_tests), tt)) in
    let kept = without_last branch_id done y (last + 1) (all_so _ _ done (λ z h. omega (arith, h)) given) refl in
    let few = parts.few in
    let marks = few_marks (with_branch q 0 0).plan (no_marks p k done last 0 0) in
    let free : refusal q (AddBranch 0 0) ≡ None = grind (arith, nat_tests, first, few, marks) in
    let last_there = there_last branch_id done y (last + 1) refl in
    let there : has_branch more (last + 1) ≡ true = grind (arith, last_there) in
    let unused : is_in_use r (last + 1) ≡ false = grind (arith, nat_tests, childless) in
    let gone : refusal r (RemoveBranch (last + 1)) ≡ None = grind (arith, nat_tests, there, unused) in
    (free, (gone, ap₂ (λ a bs. with_branches p a bs (last + 1)) (omega arith) (sym kept)))

pub branches_added : (p : Plan) → IsSound p → Adds branch_id skip_branch add_branch (with_branches p) p.branches
branches_added p sound = record {
  adds = add_one p sound;
  skips = skip_one p sound;
  two = λ n. refl;
}
