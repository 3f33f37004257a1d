-- The marks of a document that keeps its limits.
use Rattle.desk_events.proofs.Names.{Acts, AllByRecursion, BeginsFrom, Bookmark, Branch, ComesBefore, Intervention, IsAllowed, IsForked, IsPlaced, IsSound, IsTimely, List, Mark, Option, Plan, Precedes, Some, [], acts-from, acts_at, acts_on}
use Rattle.desk_events.proofs.Names.{acts_within, and_parts, ap, ap₂, arith, bookmark_in, bookmark_mark, branch_id, element_at, first_of, fork_of, fork_of-zero, forks_at, inl, inr, is_mark, is_same, is_start, list_any, mark_at, nat_le}
use Rattle.desk_events.proofs.Names.{nat_tests, option_map_or, or_cases, reach, refl, stands_at, states_of, subst, sym, true, ℕ, ◌<◌, ◌==◌, ◌^◌, ◌||◌, ◌∙◌, ◌∷◌, ◌≡◌, ◌≤◌}
use Rattle.desk_events.proofs.Shared.Listed.{all_both, any_so, each_found, found_listed}
use Rattle.desk_events.proofs.Shared.Tests.{either_way, clash, true_eq}

-- marks that are one
pub same_mark : (m n : Mark) → is_same m n ≡ true → m ≡ n
same_mark m n h = grind (arith, nat_tests)

-- the start is one mark
pub start_is : (m : Mark) → is_start m ≡ true → m ≡ mark_at 0 0
start_is m h = same_mark m (mark_at 0 0) h

-- the marks of a document that keeps its limits

-- a mark is the start, or where something forks, stands or acts, of which something is known
pub marks_so : {Q : Type 0} (p : Plan) (m : Mark) (F : Branch → Type 0) (S : Bookmark → Type 0)
    (I : Intervention → Type 0) → AllByRecursion F p.branches → AllByRecursion S p.bookmarks
    → AllByRecursion I p.interventions → (is_start m ≡ true → Q) → ((x : Branch) → F x → forks_at x m ≡ true → Q)
    → ((b : Bookmark) → S b → stands_at b m ≡ true → Q)
    → ((i : Intervention) → I i → nat_le m.generation (reach p m.branch) ≡ true
    → acts_at i m.branch m.generation ≡ true → Q)
    → is_mark p m ≡ true → Q
marks_so p m F S I forked placed allowed start forks stands acts there =
    either_way (is_start m) start (λ miss.
    either_way (list_any (λ (x : Branch). forks_at x m) p.branches)
    (any_so (λ (x : Branch). forks_at x m) F p.branches forks forked) (λ none.
    either_way (list_any (λ (b : Bookmark). stands_at b m) p.bookmarks)
    (any_so (λ (b : Bookmark). stands_at b m) S p.bookmarks stands placed) (λ off.
    let within : acts_within p m ≡ true = rw (miss, none, off) at there in
    let parts =
    and_parts (nat_le m.generation (reach p m.branch))
    (list_any (λ (i : Intervention). acts_at i m.branch m.generation) p.interventions) within in
    any_so (λ (i : Intervention). acts_at i m.branch m.generation) I p.interventions
    (λ i k at. acts i k parts.0 at) allowed parts.1)))

-- each is in a branch that is there, at its fork or above
pub mark_placed : (p : Plan) (m : Mark) → IsSound p → is_mark p m ≡ true → IsPlaced p.branches m.branch m.generation
mark_placed p m sound there =
    let all = sound.branches_sound in
    marks_so p m (λ x. (element_at branch_id p.branches x.id ≡ Some x) × IsForked p.branches x)
    (λ b. IsPlaced p.branches b.branch b.generation) (λ i. IsPlaced p.branches i.branch (first_of i.acts))
    (all_both (λ (x : Branch). element_at branch_id p.branches x.id ≡ Some x) (IsForked p.branches)
    (λ x. (element_at branch_id p.branches x.id ≡ Some x) × IsForked p.branches x) p.branches
    (λ x found forked. (found, forked)) (each_found branch_id p.branches all.rise) all.forked)
    all.bookmarks_placed all.interventions_placed
    (λ hit. subst (λ (n : Mark). IsPlaced p.branches n.branch n.generation) (sym (start_is m hit))
    (record { there = refl; from_fork = (let low = fork_of-zero p.branches all.forked in omega (arith, low)) }))
    (λ x k at.
    let parts = and_parts (x.id == m.branch || x.parent == m.branch) (x.fork == m.generation) at in
    let here = true_eq x.fork m.generation parts.1 in
    elim (or_cases (x.id == m.branch) (x.parent == m.branch) parts.0) [
      | inl own ↦ placed_later x.id m.branch x.fork m.generation own (omega (arith, here)) (begins x k.0)
      | inr parent ↦ placed_later x.parent m.branch x.fork m.generation parent (omega (arith, here)) k.1.placed
    ])
    (λ b placed at.
    let parts = and_parts (b.branch == m.branch) (b.generation == m.generation) at in
    let here = true_eq b.generation m.generation parts.1 in
    placed_later b.branch m.branch b.generation m.generation parts.0 (omega (arith, here)) placed)
    (λ i placed far at.
    let parts = and_parts (i.branch == m.branch) (acts_on i.acts m.generation) at in
    placed_later i.branch m.branch (first_of i.acts) m.generation parts.0
    (acts-from i.acts m.generation parts.1) placed)
    there
  where
    placed_later : (b c g h : ℕ) → (b == c) ≡ true → g ≤ h → IsPlaced p.branches b g → IsPlaced p.branches c h
    placed_later b c g h branch later placed =
        subst (λ n. IsPlaced p.branches n h) (true_eq b c branch)
        (record { there = placed.there; from_fork = (let from = placed.from_fork in omega (arith, from, later)) })

    begins : (x : Branch) → element_at branch_id p.branches x.id ≡ Some x → IsPlaced p.branches x.id x.fork
    begins x found = record {
      there = either_way (x.id == 0) (λ hit. rw hit refl)
          (λ miss. rw miss (found_listed branch_id p.branches x.id x found));
      from_fork =
          (let same : fork_of p.branches x.id ≡ x.fork =
          ap (λ (o : Option Branch). option_map_or (λ (y : Branch). y.fork) o 0) found in omega (arith, same));
    }

-- an intervention acts near enough
timely_near : (acts : Acts) (g : ℕ) → IsTimely acts → acts_on acts g ≡ true → g ≤ 2 ^ 60
timely_near acts g timely at = grind (arith, nat_tests)

-- each is near enough
pub mark_near : (p : Plan) (m : Mark) → IsSound p → is_mark p m ≡ true → m.generation ≤ 2 ^ 60
mark_near p m sound there =
    marks_so p m (IsForked p.branches) (λ b. b.generation ≤ 2 ^ 60) (IsAllowed (states_of p.rule))
    sound.branches_sound.forked sound.bookmarks_near sound.interventions_allowed
    (λ hit. let low : m.generation ≡ 0 = ap (λ (n : Mark). n.generation) (start_is m hit) in omega (arith, low))
    (λ x forked at.
    let parts = and_parts (x.id == m.branch || x.parent == m.branch) (x.fork == m.generation) at in
    let here = true_eq x.fork m.generation parts.1 in
    let near = forked.near in
    omega (arith, here, near))
    (λ b near at.
    let parts = and_parts (b.branch == m.branch) (b.generation == m.generation) at in
    let here = true_eq b.generation m.generation parts.1 in
    omega (arith, here, near))
    (λ i allowed far at.
    timely_near i.acts m.generation allowed.timely
    (and_parts (i.branch == m.branch) (acts_on i.acts m.generation) at).1)
    there

-- one mark alone comes before another
pub before_one : (p : Plan) (a b m : Mark) → IsSound p → ComesBefore p a m → ComesBefore p b m → a ≡ b
before_one p a b m sound h k =
    elim h [
      | inl begins ↦
          elim k [
            | inl also ↦ ap₂ mark_at (begins.parent ∙ sym also.parent) (begins.same ∙ sym also.same)
            | inr after ↦ absurd (beyond p a b m sound begins after)
          ]
      | inr after ↦
          elim k [
            | inl begins ↦ absurd (beyond p b a m sound begins after)
            | inr also ↦ one p a b m after also
          ]
    ]
  where
    -- no mark of a branch is below its fork
    beyond : (p : Plan) (a b m : Mark) → IsSound p → BeginsFrom p a m → Precedes p b m → ⊥
    beyond p a b m sound begins after =
        let placed = mark_placed p b sound after.is in
        let from : fork_of p.branches m.branch ≤ b.generation =
        subst (λ n. fork_of p.branches n ≤ b.generation) after.branch placed.from_fork in
        let fork = begins.fork in
        let below = after.below in
        omega (arith, from, fork, below)

    earlier : (p : Plan) (a b m : Mark) → Precedes p a m → Precedes p b m → a.generation < b.generation → ⊥
    earlier p a b m h k less =
        clash (is_mark p (mark_at m.branch b.generation))
        (ap (λ n. is_mark p (mark_at n b.generation)) (sym k.branch) ∙ k.is)
        (h.between b.generation less k.below)

    one : (p : Plan) (a b m : Mark) → Precedes p a m → Precedes p b m → a ≡ b
    one p a b m h k = grind (arith, earlier p a b m h k, earlier p b a m k h)

-- it isn't at a greater generation
pub comes_le : (p : Plan) (before mark : Mark) → ComesBefore p before mark → before.generation ≤ mark.generation
comes_le p before mark h = grind arith

-- a bookmark stands at a mark
pub stands_mark : (bs : List Bookmark) (id : ℕ) (b : Bookmark) → bookmark_in bs id ≡ Some b
    → list_any (λ (c : Bookmark). stands_at c (bookmark_mark b)) bs ≡ true
stands_mark [] id b is = absurd cc
stands_mark (c ∷ bs) id b is = grind (arith, nat_tests, stands_mark bs id b)

pub bookmark_is_mark : (p : Plan) (id : ℕ) (b : Bookmark) → bookmark_in p.bookmarks id ≡ Some b
    → is_mark p (bookmark_mark b) ≡ true
bookmark_is_mark p id b is = grind (arith, stands_mark p.bookmarks id b is)
