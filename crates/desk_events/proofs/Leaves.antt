-- What an edit leaves of a document's history.
use Rattle.desk_events.proofs.Names.{AddBookmark, AddBranch, Asked, Bookmark, Bool, Branch, BranchInUse, EditFault, Intervention, IsPlaced, IsSound, IsSound-removed_branch, List, Mark, MoveBookmark, NoSuchBranch, None, Option, Plan}
use Rattle.desk_events.proofs.Names.{RemoveBookmark, RemoveBranch, ReplaceRule, ReplaceStart, SetCells, Some, Touched, [], after, after-unfelt, ap, ap₂, arith, arrival, arrival-added, arrival-removed, arrival-unfelt, bookmark_in}
use Rattle.desk_events.proofs.Names.{bookmark_mark, branch_id, cells_at, changed, false, felt_from, first_refusal, first_touched, fork_of, from_touched, has_bookmarks, has_branch, has_id, is_in_use, is_mark, is_start, keeps_arrival, lay}
use Rattle.desk_events.proofs.Names.{leaves_after, mark_at, name_of, nat_lt, nat_tests, not, or_from, parent_of, parents_before, refl, refusal, scratch, spent, states_of, suc, sym, text_of, touched_by, true, unused, without, zero, ℕ, ◌&&◌}
use Rattle.desk_events.proofs.Names.{◌+◌, ◌<◌, ◌==◌, ◌∙◌, ◌∷◌, ◌≡◌, ◌≤◌}
use Rattle.schedule.specs.Evolution.{is_felt}
use Rattle.schedule.proofs.Shared.Arrivals.{ParentsComeBefore}
use Rattle.schedule.proofs.Shared.Felt.{felt-apart, felt-back, felt-here}
use Rattle.desk_events.proofs.Shared.Marks.{mark_placed}
use Rattle.desk_events.proofs.Shared.Tests.{clash, either_way, eq_true, false_eq, true_eq}
use Rattle.desk_events.proofs.Shared.Touching.{SameUntouched, untouched, untouched_elsewhere}

-- what isn't felt

not_true : (b : Bool) → not b ≡ true → b ≡ false
not_true b h = grind arith

-- what a mark leaves isn't felt at the next generation
unfelt_next : (branches : List Branch) (from m : Mark) → leaves_after branches (Some from) m ≡ true
    → is_felt branches m.branch m.branch (m.generation + 1) from.branch from.generation ≡ false
unfelt_next branches from m h =
    let b = m.branch in
    let g = m.generation in
    let c = from.branch in
    let k = from.generation in
    either_way (c == b)
    (λ hit.
    let below : nat_lt g k ≡ true = rw hit at h in
    let here : (b == c) ≡ true = eq_true b c (sym (true_eq c b hit)) in
    felt-here branches b (g + 1) c k (λ off. clash (b == c) here off) ∙ grind (arith, nat_tests))
    (λ miss.
    let kept : not (is_felt branches b b g c k) ≡ true = rw miss at h in
    let other : (b == c) ≡ false = grind (arith, nat_tests) in
    felt-apart branches b b (g + 1) g c k other ∙ not_true (is_felt branches b b g c k) kept)

-- all but the start stands on the start

felt_root : (branches : List Branch) (b g : ℕ) → b ≡ 0 → 0 < g → is_felt branches b b g 0 0 ≡ true
felt_root branches b g zero_b above = grind (arith, nat_tests, felt-here branches b g 0 0 (λ _. zero_b))

felt_start : (branches : List Branch) → ParentsComeBefore branches → (n b g : ℕ) → b ≤ n → (b ≡ 0 → 0 < g)
    → is_felt branches b b g 0 0 ≡ true
felt_start branches parents zero b g low above = let zero_b : b ≡ 0 = omega (arith, low) in
    felt_root branches b g zero_b (above zero_b)
felt_start branches parents (suc n) b g low above =
    either_way (b == 0)
    (λ hit. let zero_b = true_eq b 0 hit in felt_root branches b g zero_b (above zero_b))
    (λ miss.
    let before : parent_of branches b < b = parents b (let apart = false_eq b 0 miss in omega (arith, apart)) in
    felt-back branches parents b g 0 0 miss miss ∙ felt_start branches parents n (parent_of branches b)
    (fork_of branches b + 1) (omega (arith, before, low)) (λ _. omega arith))

-- so an edit that is felt from the start keeps nothing else
none_kept : {A : Type 0} (p : Plan) (m : Mark) → IsSound p → is_start m ≡ false
    → keeps_arrival p.branches (Some (mark_at 0 0)) m ≡ true → A
none_kept p m sound other keeps =
    let b = m.branch in
    let g = m.generation in
    let up : b ≡ 0 → 0 < g = λ zero_b. above b g zero_b other in
    clash (is_felt p.branches b b g 0 0)
    (felt_start p.branches (parents_before p.branches sound.branches_sound.forked) b b g (omega arith) up)
    (not_true (is_felt p.branches b b g 0 0) keeps)
  where
    above : (b g : ℕ) → b ≡ 0 → (b == 0 && g == 0) ≡ false → 0 < g
    above b g zero_b off = grind (arith, nat_tests)

none_left : {A : Type 0} (p : Plan) (m : Mark) → IsSound p → leaves_after p.branches (Some (mark_at 0 0)) m ≡ true → A
none_left p m sound leaves =
    let b = m.branch in
    let g = m.generation in
    clash (is_felt p.branches b b (g + 1) 0 0)
    (felt_start p.branches (parents_before p.branches sound.branches_sound.forked) b b (g + 1) (omega arith)
    (λ _. omega arith)) (unfelt_next p.branches (mark_at 0 0) m leaves)

-- a branch that is removed

-- it isn't in use
free_second : (a b : Bool) (f g : EditFault) (rest : List (Bool × EditFault))
    → first_refusal ((a, f) ∷ (b, g) ∷ rest) ≡ None → b ≡ false
free_second a b f g rest h = grind arith

not_used : (p : Plan) (n : ℕ) → refusal p (RemoveBranch n) ≡ None → is_in_use p n ≡ false
not_used p n free = free_second (not (has_branch p.branches n)) (is_in_use p n) NoSuchBranch BranchInUse (spent p) free

-- and isn't there any more
none_without : (xs : List Branch) (n : ℕ) → has_id branch_id (without branch_id xs n) n ≡ false
none_without [] n = refl
none_without (x ∷ xs) n = grind (arith, none_without xs n)

gone : (p : Plan) (n b : ℕ) → is_in_use p n ≡ false → has_branch (without branch_id p.branches n) b ≡ true
    → (b == n) ≡ false
gone p n b free there =
    let none = or_from (n == 0) (has_id branch_id (without branch_id p.branches n) n) (unused p n free).beside
    (none_without p.branches n) in
    grind (arith, nat_tests)

none_shown : (bs : List Bookmark) (n id : ℕ) (b : Bookmark) → has_bookmarks bs n ≡ false → bookmark_in bs id ≡ Some b
    → (b.branch == n) ≡ false
none_shown [] n id b none is = absurd cc
none_shown (c ∷ bs) n id b none is = grind (arith, none_shown bs n id b)

shows_none : (p : Plan) (n id : ℕ) (b : Bookmark) → is_in_use p n ≡ false → bookmark_in p.bookmarks id ≡ Some b
    → (b.branch == n) ≡ false
shows_none p n id b free is = none_shown p.bookmarks n id b (unused p n free).bookmarks is

-- what an edit touches isn't felt before

touched_left : (p : Plan) (others : List Intervention) (o : Option Touched) (m : Mark) → IsSound p
    → SameUntouched p.interventions others o → keeps_arrival p.branches (from_touched o false) m ≡ true
    → arrival p m.branch m.generation ≡ arrival (record p { interventions = others }) m.branch m.generation
touched_left p others None m sound same stays = grind arith
touched_left p others (Some t) m sound same stays =
    let from = first_touched t in
    arrival-unfelt p sound others from.branch from.generation (untouched_elsewhere p.interventions others t same)
    m.branch m.generation
    (not_true (is_felt p.branches m.branch m.branch m.generation from.branch from.generation) stays)

touched_after : (p : Plan) (others : List Intervention) (o : Option Touched) (b : Bookmark) → IsSound p
    → SameUntouched p.interventions others o → leaves_after p.branches (from_touched o false) (bookmark_mark b) ≡ true
    → after p b.branch b.generation ≡ after (record p { interventions = others }) b.branch b.generation
touched_after p others None b sound same leaves =
    ap (λ is. after (record p { interventions = is }) b.branch b.generation) same
touched_after p others (Some t) b sound same leaves =
    let from = first_touched t in
    after-unfelt p sound others from.branch from.generation (untouched_elsewhere p.interventions others t same)
    b.branch b.generation (unfelt_next p.branches from (bookmark_mark b) leaves)

-- an edit of interventions leaves what arrives at a mark where it keeps that
edited_left : (p : Plan) (asked : Asked) (m : Mark) → IsSound p
    → keeps_arrival p.branches (from_touched (touched_by p asked) false) m ≡ true
    → arrival p m.branch m.generation ≡ arrival (record p { interventions = (changed p asked).plan.interventions })
    m.branch m.generation
edited_left p asked m sound stays =
    touched_left p (changed p asked).plan.interventions (touched_by p asked) m sound (untouched p asked sound) stays

-- so does every edit, at a mark of both documents
pub arrival_left : (p : Plan) (asked : Asked) (m : Mark) → IsSound p → refusal p asked ≡ None → is_start m ≡ false
    → is_mark p m ≡ true → is_mark (changed p asked).plan m ≡ true → keeps_arrival (changed p asked).plan.branches
    (felt_from p asked) m ≡ true
    → arrival p m.branch m.generation ≡ arrival (changed p asked).plan m.branch m.generation
arrival_left p (SetCells cells) m sound free other was is stays = none_kept p m sound other stays
arrival_left p (ReplaceStart start) m sound free other was is stays = none_kept p m sound other stays
arrival_left p (ReplaceRule rule) m sound free other was is stays = none_kept p m sound other stays
arrival_left p (AddBookmark branch generation view) m sound free other was is stays = refl
arrival_left p (MoveBookmark id generation) m sound free other was is stays = refl
arrival_left p (RemoveBookmark id) m sound free other was is stays = refl
arrival_left p (AddBranch parent generation) m sound free other was is stays =
    arrival-added p sound parent generation m.branch m.generation (mark_placed p m sound was).there
arrival_left p (RemoveBranch n) m sound free other was is stays =
    let none = not_used p n free in
    let later = IsSound-removed_branch p n sound free in
    arrival-removed p sound n none m.branch m.generation
    (gone p n m.branch none (mark_placed (changed p (RemoveBranch n)).plan m later is).there)
arrival_left p asked m sound free other was is stays = edited_left p asked m sound stays

-- and what a bookmark shows that it leaves

pub shown_left : (p q : Plan) (b : Bookmark) → p.rule ≡ q.rule
    → after p b.branch b.generation ≡ after q b.branch b.generation → scratch p b ≡ scratch q b
shown_left p q b rule world = ap₂ (λ r w. text_of b.view w (name_of r) (states_of r) b.generation) rule world

edited_shown : (p : Plan) (asked : Asked) (b : Bookmark) → IsSound p
    → leaves_after p.branches (from_touched (touched_by p asked) false) (bookmark_mark b) ≡ true
    → scratch p b ≡ scratch (record p { interventions = (changed p asked).plan.interventions }) b
edited_shown p asked b sound leaves =
    let others = (changed p asked).plan.interventions in
    shown_left p (record p { interventions = others }) b refl
    (touched_after p others (touched_by p asked) b sound (untouched p asked sound) leaves)

pub scratch_left : (p : Plan) (asked : Asked) (id : ℕ) (b : Bookmark) → IsSound p → refusal p asked ≡ None
    → bookmark_in p.bookmarks id ≡ Some b → IsPlaced p.branches b.branch b.generation
    → leaves_after (changed p asked).plan.branches (felt_from p asked) (bookmark_mark b) ≡ true
    → scratch p b ≡ scratch (changed p asked).plan b
scratch_left p (SetCells cells) id b sound free is placed leaves = none_left p (bookmark_mark b) sound leaves
scratch_left p (ReplaceStart start) id b sound free is placed leaves = none_left p (bookmark_mark b) sound leaves
scratch_left p (ReplaceRule rule) id b sound free is placed leaves = none_left p (bookmark_mark b) sound leaves
scratch_left p (AddBookmark branch generation view) id b sound free is placed leaves = refl
scratch_left p (MoveBookmark n generation) id b sound free is placed leaves = refl
scratch_left p (RemoveBookmark n) id b sound free is placed leaves = refl
scratch_left p (AddBranch parent generation) id b sound free is placed leaves =
    shown_left p (changed p (AddBranch parent generation)).plan b refl
    (ap (lay (cells_at p.interventions b.branch b.generation))
    (arrival-added p sound parent generation b.branch b.generation placed.there))
scratch_left p (RemoveBranch n) id b sound free is placed leaves =
    let none = not_used p n free in
    shown_left p (changed p (RemoveBranch n)).plan b refl
    (ap (lay (cells_at p.interventions b.branch b.generation))
    (arrival-removed p sound n none b.branch b.generation (shows_none p n id b none is)))
scratch_left p asked id b sound free is placed leaves = edited_shown p asked b sound leaves
