-- The edits that add the bookmarks of a document, or skip ids, aren't refused.
use Rattle.replay_laws.proofs.Names.{AddBookmark, AllByRecursion, Bookmark, IsPlaced, IsSound, Lead, List, None, Plan, RemoveBookmark, [], add_bookmark, all_so, ap, ap₂, arith, bookmark_id, branch_id, changed_bookmarks, fork_of-zero}
use Rattle.replay_laws.proofs.Names.{last_id, nat_tests, next_bookmark, refl, refusal, repeat_marks, skip_bookmark, sym, ℕ, ◌++◌, ◌+◌, ◌<◌, ◌^◌, ◌∷◌, ◌≡◌, ◌≤◌}
use Rattle.bookmarks.specs.declared.view.View.{View}
use Rattle.bookmarks.specs.declared.view.View.TheVariants.{Counts}
use Rattle.bookmarks.specs.Within.{KeepsViewLimits}
use Rattle.replay_laws.proofs.Branches.{few_marks, with_branches}
use Rattle.replay_laws.proofs.Elements.{at_cut, fewer_before, there_last, without_last}
use Rattle.replay_laws.proofs.Shared.Leading.{Adds}

-- the document with rule, start and branches, and these bookmarks
abbrev pub with_bookmarks : Plan → ℕ → List Bookmark → ℕ → Plan
with_bookmarks p k done last = record (with_branches p k p.branches (last_id branch_id 0 p.branches)) {
  bookmarks = done;
  last_bookmark = last;
}

no_marks : (p : Plan) (k : ℕ) (done : List Bookmark) (last b generation : ℕ) (view : View)
    → repeat_marks (changed_bookmarks (with_bookmarks p k done last) b generation view).plan ≤ 8192
no_marks p k done last b generation view = omega arith

add_one : (p : Plan) → IsSound p → (done : List Bookmark) (x : Bookmark) (rest : List Bookmark) (k last : ℕ)
    → done ++ x ∷ rest ≡ p.bookmarks → last + 1 ≡ x.id → k + 1 < 2 ^ 64
    → Lead (add_bookmark x ∷ []) (with_bookmarks p k done last) (with_bookmarks p (k + 1) (done ++ x ∷ []) x.id)
add_one p sound done x rest k last is next left =
    let q : Plan = with_bookmarks p k done last in
    let near : x.generation ≤ 2 ^ 60 = at_cut _ p.bookmarks done x rest is sound.bookmarks_near in
    let within : KeepsViewLimits x.view = at_cut _ p.bookmarks done x rest is sound.views_within in
    let placed : IsPlaced p.branches x.branch x.generation =
    at_cut _ p.bookmarks done x rest is sound.branches_sound.bookmarks_placed in
    let few = fewer_before p.bookmarks done x rest 4096 is sound.few_bookmarks in
    let marks = few_marks (changed_bookmarks q x.branch x.generation x.view).plan
    (no_marks p k done last x.branch x.generation x.view) in
    let free : refusal q (AddBookmark x.branch x.generation x.view) ≡ None =
    grind (arith, nat_tests, placed.there, placed.from_fork, near, within.0, within.1, few, marks) in
    (free, ap (λ n. with_bookmarks p (k + 1) (done ++ (record x { id = n }) ∷ []) n) (sym next))

skip_one : (p : Plan) → IsSound p → (done : List Bookmark) (x : Bookmark) (rest : List Bookmark) (k last : ℕ)
    → done ++ x ∷ rest ≡ p.bookmarks → last + 1 < x.id → AllByRecursion (λ (y : Bookmark). y.id ≤ last) done
    → k + 2 < 2 ^ 64
    → Lead (skip_bookmark (last + 1)) (with_bookmarks p k done last) (with_bookmarks p (k + 2) done (last + 1))
skip_one p sound done x rest k last is gap given left =
    let q : Plan = with_bookmarks p k done last in
    let y : Bookmark = next_bookmark q 0 0 Counts in
    let more : List Bookmark = done ++ y ∷ [] in
    let r : Plan = with_bookmarks p (k + 1) more (last + 1) in
    let kept = without_last bookmark_id done y (last + 1) (all_so _ _ done (λ z h. omega (arith, h)) given) refl in
    let root = fork_of-zero p.branches sound.branches_sound.forked in
    let few = fewer_before p.bookmarks done x rest 4096 is sound.few_bookmarks in
    let marks = few_marks (changed_bookmarks q 0 0 Counts).plan (no_marks p k done last 0 0 Counts) in
    let free : refusal q (AddBookmark 0 0 Counts) ≡ None = grind (arith, nat_tests, root, few, marks) in
    let there = there_last bookmark_id done y (last + 1) refl in
    let gone : refusal r (RemoveBookmark (last + 1)) ≡ None = grind (arith, nat_tests, there) in
    (free, (gone, ap₂ (λ a bs. with_bookmarks p a bs (last + 1)) (omega arith) (sym kept)))

pub bookmarks_added : (p : Plan) → IsSound p
    → Adds bookmark_id skip_bookmark add_bookmark (with_bookmarks p) p.bookmarks
bookmarks_added p sound = record {
  adds = add_one p sound;
  skips = skip_one p sound;
  two = λ n. refl;
}
