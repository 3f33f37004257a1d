-- What is to be computed for what is needed next can be worked.
use Rattle.dependency_book.proofs.Names.{All, AllByRecursion, BookState, Bookmark, CanBeRendered, CanBeStepped, CanBeWorked, Entry, IsEntryOf, IsRightBook, IsSound, List, Mark, Need, Plan, Some, Step, StepsTo, View, ViewsOf, [], after}
use Rattle.dependency_book.proofs.Names.{arith, arrival_known, bookmark_in, cells_at, either_way, fork_of, mark_at, mark_near, start_of, step_said, subst, sym, view_said, world_in, ℕ, ◌+◌, ◌-◌, ◌==◌, ◌^◌, ◌∷◌, ◌≡◌, ◌≤◌}
use Rattle.worlds.specs.declared.cell.CellSet.{CellSet}
use Rattle.worlds.specs.Range.{AllBelow, CanBeLaid, HasMargin}
use Rattle.worlds.proofs.Shared.Stepped.{HasMargin-less}
use Rattle.rule_tree.specs.declared.rule.Rule.{Rule}
use Rattle.rule_tree.specs.Rule.{states_of}
use Rattle.bookmarks.specs.Within.{KeepsViewLimits}
use Rattle.schedule.proofs.Shared.Fits.{CanBeLaid-at}
use Rattle.schedule.proofs.Shared.History.{AllBelow-after, HasMargin-after}
use Rattle.revision_jobs.specs.declared.entry.Entry.TheVariants as entry
use Rattle.revision_jobs.specs.declared.entry.Rendering.{Rendering}
use Rattle.revision_jobs.specs.declared.entry.Step.{Step as Stepping}
use Rattle.desk_events.proofs.Shared.Gives as gives
use Rattle.desk_events.proofs.Shared.Walk.{before_late}
use Rattle.dependency_book.proofs.Shared.Cores.{known_arrives}

view_after : (d : BookState) (id : ℕ) (r : Rendering) → IsRightBook d → (h : ViewsOf d id r)
    → world_in r ≡ after d.plan h.bookmark.branch h.bookmark.generation
view_after d id r right h = gives.view_after d.plan (arrival_known d) id (view_said r) (known_arrives d right)
    h

-- a step

cells_laid : (p : Plan) (b g : ℕ) (cells : List CellSet) → IsSound p → cells ≡ cells_at p.interventions b g
    → All CanBeLaid cells
cells_laid p b g cells sound is = subst (All CanBeLaid) (sym is) (CanBeLaid-at p b g sound)

step_workable : (d : BookState) (m : Mark) (s : Stepping) → IsRightBook d → StepsTo d m s → CanBeStepped s
step_workable d m s right h =
    let sound = right.core.sound in
    let n : Mark = h.before in
    let b = n.branch in
    let g = n.generation in
    let near : m.generation ≤ 2 ^ 60 = mark_near d.plan m sound h.noted in
    let late : fork_of d.plan.branches b ≤ g = before_late d.plan n m sound h.comes in
    let gap : g + s.gens ≡ m.generation = h.gap in
    let left : start_of s ≡ after d.plan b g =
    gives.step_begins d.plan (arrival_known d) m (step_said s) (known_arrives d right) h in
    let few : s.gens ≤ 2 ^ 60 - g = omega (arith, near, gap) in (
      cells_laid d.plan b g s.cells sound h.cells,
      record {
        below = subst (λ (r : Rule). AllBelow (states_of r) (start_of s)) (sym h.rule)
            (subst (AllBelow (states_of d.plan.rule)) (sym left) (AllBelow-after d.plan b g sound));
        few = omega (arith, near, gap);
        fits = subst (HasMargin s.gens) (sym left)
            (HasMargin-less s.gens (2 ^ 60 - g) (after d.plan b g) few
            (HasMargin-after d.plan b g late (omega (arith, near, gap)) sound));
      },
    )

each_within : (bs : List Bookmark) (id : ℕ) (b : Bookmark)
    → AllByRecursion (λ (c : Bookmark). KeepsViewLimits c.view) bs
    → bookmark_in bs id ≡ Some b → KeepsViewLimits b.view
each_within [] id b all there = absurd cc
each_within (c ∷ bs) id b all there =
    either_way (c.id == id)
    (λ hit. let one : Some c ≡ Some b = rw hit at there in let same : c ≡ b = cc in
    subst (λ (x : Bookmark). KeepsViewLimits x.view) same all.0)
    (λ miss. each_within bs id b all.1 (rw miss at there))

view_workable : (d : BookState) (id : ℕ) (r : Rendering) → IsRightBook d → ViewsOf d id r → CanBeRendered r
view_workable d id r right h =
    let sound = right.core.sound in
    let b = h.bookmark.branch in
    let g = h.bookmark.generation in
    let left = view_after d id r right h in (
      cells_laid d.plan b g r.cells sound h.cells,
      subst (λ n. AllBelow n (world_in r)) (sym h.states)
          (subst (AllBelow (states_of d.plan.rule)) (sym left) (AllBelow-after d.plan b g sound)),
      subst KeepsViewLimits (sym h.view) (each_within d.plan.bookmarks id h.bookmark sound.views_within h.there),
    )

-- the entry of what is to be computed can be worked
pub entry_workable : (d : BookState) (need : Need) (e : Entry) → IsRightBook d → IsEntryOf d need e
    → CanBeWorked e
entry_workable d (Step branch mark) (entry.Step s) right h = step_workable d (mark_at branch mark) s right h
entry_workable d (Step branch mark) (entry.View r) right h = absurd h
entry_workable d (View id) (entry.Step s) right h = absurd h
entry_workable d (View id) (entry.View r) right h = view_workable d id r right h
