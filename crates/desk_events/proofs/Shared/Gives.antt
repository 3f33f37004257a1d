-- What is to be computed for a row gives what is wanted there.
use Rattle.desk_events.proofs.Names.{BeginsFrom, Entry, IsSound, List, Mark, Need, Option, Plan, Precedes, Some, Step, Stepping, View, Viewing, World, after, ap, ap₂, arith, arrival, arrival-fork, cells_at, fork_of, inl, inr, iterate}
use Rattle.desk_events.proofs.Names.{iterate-zero, lay, mark_at, name_of, next_of, pattern, start_of, states_of, step, steps, subst, sym, text, text_of, text_wanted, value, views, wanted, world_after, world_seen, ℕ, ◌+◌, ◌-◌, ◌<◌, ◌∙◌, ◌≡◌}
use Rattle.desk_events.proofs.Names.{◌≤◌}
use Rattle.rule_tree.specs.declared.rule.Rule.{Rule}
use Rattle.bookmarks.specs.declared.view.View.{View as ViewOf}
use Rattle.desk_events.specs.Entered.{IsEntryFrom, StepsFrom, ViewsFrom}
use Rattle.desk_events.proofs.Shared.Marks.{mark_placed}
use Rattle.desk_events.proofs.Shared.Walk.{arrival-gap, mark_within, quiet_at}

-- what is known to arrive does
abbrev pub Arrives : (Mark → Option World) → Plan → Type 0
Arrives known p = (m : Mark) (w : World) → known m ≡ Some w → w ≡ arrival p m.branch m.generation

-- the step to a mark

-- it begins with what leaves the mark before
pub step_begins : (p : Plan) (arrives : Mark → Option World) (m : Mark) (s : Stepping) → Arrives arrives p
    → (h : StepsFrom p arrives m s) → start_of s ≡ after p h.before.branch h.before.generation
step_begins p arrives m s right h = ap₂ lay h.cells (right h.before s.from h.from)

-- where a branch begins
fork_gives : (p : Plan) (arrives : Mark → Option World) (m : Mark) (s : Stepping) → IsSound p → Arrives arrives p
    → (h : StepsFrom p arrives m s) → BeginsFrom p h.before m → world_after s ≡ arrival p m.branch m.generation
fork_gives p arrives m s sound right h begins =
    let f = step (next_of s.rule) in
    let same : h.before.generation ≡ m.generation = begins.same in
    let gap : h.before.generation + s.gens ≡ m.generation = h.gap in
    let none : s.gens ≡ 0 = omega (arith, same, gap) in
    ap (λ k. iterate k f (start_of s)) none
    ∙ iterate-zero f (start_of s)
    ∙ step_begins p arrives m s right h
    ∙ ap₂ (after p) begins.parent (begins.same ∙ begins.fork)
    ∙ sym (arrival-fork p sound m.branch begins.above)
    ∙ ap (arrival p m.branch) (sym begins.fork)

-- and elsewhere
line_gives : (p : Plan) (arrives : Mark → Option World) (m : Mark) (s : Stepping) → IsSound p → Arrives arrives p
    → (h : StepsFrom p arrives m s) → Precedes p h.before m → world_after s ≡ arrival p m.branch m.generation
line_gives p arrives m s sound right h precedes =
    let n = h.before in
    let under : n.generation < m.generation = precedes.below in
    let gap : n.generation + s.gens ≡ m.generation = h.gap in
    let span : s.gens ≡ m.generation - n.generation = omega (arith, gap) in
    let left = start_of s in
    let far = mark_within p m sound h.noted in
    let late : fork_of p.branches m.branch ≤ n.generation =
    subst (λ b. fork_of p.branches b ≤ n.generation) precedes.branch (mark_placed p n sound precedes.is).from_fork in
    arrival-gap p m.branch n.generation m.generation s.from (world_after s) left under late
    (λ g over less. quiet_at p m.branch g (omega (arith, far, less)) (precedes.between g over less))
    (right n s.from h.from ∙ ap (λ b. arrival p b n.generation) precedes.branch)
    (ap (λ cs. lay cs s.from) (h.cells ∙ ap (λ b. cells_at p.interventions b n.generation) precedes.branch))
    (ap₂ (λ k (r : Rule). iterate k (step (next_of r)) left) span h.rule)

pub step_gives : (p : Plan) (arrives : Mark → Option World) (m : Mark) (s : Stepping) → IsSound p → Arrives arrives p
    → StepsFrom p arrives m s → world_after s ≡ arrival p m.branch m.generation
step_gives p arrives m s sound right h =
    elim h.comes [
      | inl begins ↦ fork_gives p arrives m s sound right h begins
      | inr precedes ↦ line_gives p arrives m s sound right h precedes
    ]

-- the view of a bookmark

same_text : (f : ViewOf → World → List ℕ → ℕ → ℕ → List ℕ) (v v' : ViewOf) (w w' : World) (n n' : List ℕ)
    (s s' g g' : ℕ) → v ≡ v' → w ≡ w' → n ≡ n' → s ≡ s' → g ≡ g' → f v w n s g ≡ f v' w' n' s' g'
same_text f v v' w w' n n' s s' g g' a b c d e = cc

pub view_after : (p : Plan) (arrives : Mark → Option World) (id : ℕ) (r : Viewing) → Arrives arrives p
    → (h : ViewsFrom p arrives id r) → world_seen r ≡ after p h.bookmark.branch h.bookmark.generation
view_after p arrives id r right h =
    ap₂ lay h.cells (right (mark_at h.bookmark.branch h.bookmark.generation) r.from h.from)

-- the entry that is to be computed gives what is wanted
pub entry_gives : (p : Plan) (arrives : Mark → Option World) (need : Need) (e : Entry) → IsSound p → Arrives arrives p
    → IsEntryFrom p arrives need e → wanted p need ≡ Some (value e)
entry_gives p arrives (Step branch mark) (steps s) sound right h =
    ap (λ w. Some (pattern w)) (sym (step_gives p arrives (mark_at branch mark) s sound right h))
entry_gives p arrives (Step branch mark) (views r) sound right h = absurd h
entry_gives p arrives (View id) (steps s) sound right h = absurd h
entry_gives p arrives (View id) (views r) sound right h =
    let b = h.bookmark.branch in
    let g = h.bookmark.generation in
    ap (text_wanted p) h.there
    ∙ ap (λ bytes. Some (text bytes))
    (sym (same_text text_of r.view h.bookmark.view (world_seen r) (after p b g) r.name (name_of p.rule) r.states
    (states_of p.rule) r.generation g
    h.view (view_after p arrives id r right h) h.name h.states h.generation))
