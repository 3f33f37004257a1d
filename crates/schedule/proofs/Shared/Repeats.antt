-- How many marks repeating interventions make, where interventions, bookmarks or branches change.
use Rattle.schedule.proofs.Names.{Acts, AllByRecursion, Bookmark, Bool, Branch, CellSet, Every, Intervention, IsPlaced, IsSound, List, Once, Option, Plan, View, [], acting, all_so, ap, arith, bookmark_id, branch_id, capped_changed}
use Rattle.schedule.proofs.Names.{capped_marks, changed_bookmarks, count_between, div-mul-le_self, div-zero, false, farthest_bookmark, farthest_fork, filter, first_of, fold, fold-append, fold-map, fork_of, has_branch, if◌then◌else◌}
use Rattle.schedule.proofs.Names.{marks_to, marks_within, max, min, nat_lt, nat_tests, next_bookmark, next_branch, next_intervention, not, option_map_or, reach, reach_with, refl, repeat_marks, repeats, subst, suc, sum_by, sum_by-cons}
use Rattle.schedule.proofs.Names.{sum_by_push, sym, true, with_branch, with_changed_intervention, with_intervention, with_moved_bookmark, without, zero, ℕ, ◌++◌, ◌+◌, ◌-◌, ◌/◌, ◌==◌, ◌^◌, ◌∙◌, ◌∷◌, ◌≡◌, ◌≤◌}
use Rattle.std.proofs.lemmas.Nat.{le-div}
use Rattle.schedule.specs.Repeats.{has_too_many_marks}
use Rattle.schedule.proofs.Each.{all_are}
use Rattle.schedule.proofs.Shared.Branches.{element_at-added, element_at-without}
use Rattle.schedule.proofs.Shared.Reach.{more, more-from}

-- a greater number holds a multiple as often at least
div-more : (m n k : ℕ) → m ≤ n → m / k ≤ n / k
div-more m n zero h = subst (λ a. a ≤ n / zero) (sym (div-zero m)) (omega arith)
div-more m n (suc k) h = le-div (m / suc k) n (suc k) (omega arith)
    (let l = div-mul-le_self m (suc k) in omega (arith, l, h))

count-more : (first every near far : ℕ) → near ≤ far → count_between first every near ≤ count_between first every far
count-more first every near far h =
    let more = div-more (near - first) (far - first) every (omega (arith, h)) in grind (arith, nat_tests, more)

-- a branch that reaches farther has no fewer marks
pub marks_to-more : (acts : Acts) (near far : ℕ) → near ≤ far → marks_to near acts ≤ marks_to far acts
marks_to-more (Once generation) near far h = omega arith
marks_to-more (Every first every last) near far h = count-more first every (min near last) (min far last)
    (omega (arith, h))

pub sum-less : {X : Type 0} (f g : X → ℕ) (xs : List X) → AllByRecursion (λ x. f x ≤ g x) xs
    → sum_by f xs ≤ sum_by g xs
sum-less f g [] h = omega arith
sum-less f g (x ∷ xs) h = grind (arith, sum_by-cons f x xs, sum_by-cons g x xs, sum-less f g xs h.1)

pub sum-same : {X : Type 0} (f g : X → ℕ) (xs : List X) → AllByRecursion (λ x. f x ≡ g x) xs
    → sum_by f xs ≡ sum_by g xs
sum-same f g [] h = refl
sum-same f g (x ∷ xs) h = grind (arith, sum_by-cons f x xs, sum_by-cons g x xs, sum-same f g xs h.1)

-- some left out
pub sum-filter : {X : Type 0} (f : X → ℕ) (c : X → Bool) (xs : List X) → sum_by f (filter c xs) ≤ sum_by f xs
sum-filter f c [] = omega arith
sum-filter f c (x ∷ xs) =
    grind (arith, sum_by-cons f x xs, sum_by-cons f x (filter c xs), sum-filter f c xs)

-- a sum that stays at 2 ^ 64 - 1 where it would be more
pub capped : {X : Type 0} (h : ℕ → X → ℕ) (f : X → ℕ) (s : ℕ) (xs : List X) → s ≤ 2 ^ 64 - 1
    → ((s : ℕ) (x : X) → s ≤ 2 ^ 64 - 1 → h s x ≡ min (s + f x) (2 ^ 64 - 1))
    → fold h s xs ≡ min (s + sum_by f xs) (2 ^ 64 - 1)
capped h f s [] low step = omega (arith, low)
capped h f s (x ∷ xs) low step =
    let e = step s x low in
    let rest = capped h f (h s x) xs (omega (arith, e)) step in
    rest ∙ omega (arith, e, sum_by-cons f x xs)

-- so it is with marks
capped_step : (s reach : ℕ) (acts : Acts) → s ≤ 2 ^ 64 - 1
    → (if repeats acts then min (s + marks_to reach acts) (2 ^ 64 - 1) else s)
    ≡ min (s + marks_to reach acts) (2 ^ 64 - 1)
capped_step s reach (Once generation) low = omega (arith, low)
capped_step s reach (Every first every last) low = refl

capped_marks-is : (reaches : ℕ → ℕ) (is : List Intervention)
    → capped_marks reaches is ≡ min (marks_within reaches is) (2 ^ 64 - 1)
capped_marks-is reaches is =
    let k = capped _ (λ (i : Intervention). marks_to (reaches i.branch) i.acts) 0 is (omega arith)
    (λ s i low. capped_step s (reaches i.branch) i.acts low) in
    omega (arith, k)

capped_changed-is : (p : Plan) (id : ℕ) (acts : Acts) (is : List Intervention)
    → capped_changed (reach p) id acts is
    ≡ min (sum_by (λ (i : Intervention). marks_to (reach p i.branch) (if i.id == id then acts else i.acts)) is)
    (2 ^ 64 - 1)
capped_changed-is p id acts is =
    let k = capped _ (λ (i : Intervention). marks_to (reach p i.branch) (if i.id == id then acts else i.acts)) 0 is
    (omega arith) (λ s i low. capped_step s (reach p i.branch) (if i.id == id then acts else i.acts) low) in
    omega (arith, k)

-- a number above 8,192 is one that is cut at 2 ^ 64 - 1
over : (n s : ℕ) → s ≡ min n (2 ^ 64 - 1) → nat_lt 8192 s ≡ nat_lt 8192 n
over n s h = grind (arith, nat_tests)

more-less : {X : Type 0} (c : X → Bool) (f : X → ℕ) (m n : ℕ) (x : X) → m ≤ n → more c f m x ≤ more c f n x
more-less c f m n x h = grind arith

far-less : {X : Type 0} (c : X → Bool) (f : X → ℕ) (m n : ℕ) (xs : List X) → m ≤ n
    → fold (more c f) m xs ≤ fold (more c f) n xs
far-less c f m n [] h = h
far-less c f m n (x ∷ xs) h = far-less c f (more c f m x) (more c f n x) xs (more-less c f m n x h)

-- some left out
far-filter : {X : Type 0} (c : X → Bool) (f : X → ℕ) (k : X → Bool) (m n : ℕ) (xs : List X) → m ≤ n
    → fold (more c f) m (filter k xs) ≤ fold (more c f) n xs
far-filter c f k m n [] h = h
far-filter c f k m n (x ∷ xs) h =
    let kept = far-filter c f k (more c f m x) (more c f n x) xs (more-less c f m n x h) in
    let left = far-filter c f k m (more c f n x) xs (omega (arith, h, more-from c f n x)) in
    grind (arith, kept, left)

-- the greatest of a greater number
far-max : {X : Type 0} (c : X → Bool) (f : X → ℕ) (n g : ℕ) (xs : List X)
    → fold (more c f) (max n g) xs ≡ max (fold (more c f) n xs) g
far-max c f n g [] = refl
far-max c f n g (x ∷ xs) =
    let swap : more c f (max n g) x ≡ max (more c f n x) g = grind arith in
    ap (λ a. fold (more c f) a xs) swap ∙ far-max c f (more c f n x) g xs

-- a branch reaches no less far with a bookmark more
pub reach-marked : (p : Plan) (b g : ℕ) (view : View) (n : ℕ)
    → reach (changed_bookmarks p b g view).plan n ≡ reach_with p b g n
reach-marked p b g view n =
    fold-append (more (λ (k : Bookmark). k.branch == n) (λ k. k.generation))
    (farthest_fork p.branches n (fork_of p.branches n)) p.bookmarks (next_bookmark p b g view ∷ [])

-- or with a branch more that leaves it
pub reach-forked : (p : Plan) (parent g n : ℕ) → AllByRecursion (λ (x : Branch). x.id ≤ p.last_branch) p.branches
    → has_branch p.branches n ≡ true → reach (with_branch p parent g).plan n ≡ reach_with p parent g n
reach-forked p parent g n given there =
    let x : Branch = next_branch p parent g in
    let fork = fork_of p.branches n in
    let out = farthest_fork p.branches n fork in
    let same : fork_of (p.branches ++ x ∷ []) n ≡ fork = ap (λ (o : Option Branch).
    option_map_or (λ (y : Branch). y.fork) o 0) (element_at-added p.branches x p.last_branch n given (omega arith) there) in
    let longer : farthest_fork (p.branches ++ x ∷ []) n fork ≡ (if parent == n then max out g else out) =
    fold-append (more (λ (y : Branch). y.parent == n) (λ y. y.fork)) fork p.branches (x ∷ []) in
    ap (λ k. farthest_bookmark p.bookmarks n (farthest_fork (p.branches ++ x ∷ []) n k)) same
    ∙ ap (λ k. farthest_bookmark p.bookmarks n k) longer
    ∙ elim (parent == n) as (λ t. farthest_bookmark p.bookmarks n (if t then max out g else out)
    ≡ (if t then max (farthest_bookmark p.bookmarks n out) g else farthest_bookmark p.bookmarks n out)) [
      | true ↦ far-max (λ (k : Bookmark). k.branch == n) (λ k. k.generation) out g p.bookmarks
      | false ↦ refl
    ]

-- it reaches no farther without a bookmark
pub reach-unmarked : (p : Plan) (id n : ℕ)
    → farthest_bookmark (without bookmark_id p.bookmarks id) n (farthest_fork p.branches n (fork_of p.branches n))
    ≤ reach p n
reach-unmarked p id n =
    let far = farthest_fork p.branches n (fork_of p.branches n) in
    far-filter (λ (k : Bookmark). k.branch == n) (λ k. k.generation) (λ (k : Bookmark). not (k.id == id)) far far
    p.bookmarks (omega arith)

-- nor without another branch
pub reach-unforked : (p : Plan) (m n : ℕ) → (n == m) ≡ false
    → farthest_bookmark p.bookmarks n
    (farthest_fork (without branch_id p.branches m) n (fork_of (without branch_id p.branches m) n)) ≤ reach p n
reach-unforked p m n other =
    let fork = fork_of p.branches n in
    let same : fork_of (without branch_id p.branches m) n ≡ fork = ap (λ (o : Option Branch).
    option_map_or (λ (y : Branch). y.fork) o 0) (element_at-without p.branches m n other) in
    let less = far-filter (λ (x : Branch). x.parent == n) (λ x. x.fork) (λ (x : Branch). not (x.id == m))
    (fork_of (without branch_id p.branches m) n) fork p.branches (omega (arith, same)) in
    far-less (λ (k : Bookmark). k.branch == n) (λ k. k.generation)
    (farthest_fork (without branch_id p.branches m) n (fork_of (without branch_id p.branches m) n))
    (farthest_fork p.branches n fork) p.bookmarks less

-- whether there are too many marks with an intervention more
pub over-inserted : (p : Plan) (b : ℕ) (acts : Acts) (cells : List CellSet) (marks far sum : ℕ)
    → marks ≡ capped_marks (reach_with p b 0) p.interventions → far ≡ reach p b
    → sum ≡ min (marks + marks_to far acts) (2 ^ 64 - 1)
    → nat_lt 8192 sum ≡ has_too_many_marks (with_intervention p b acts cells).plan
unfolding has_too_many_marks
over-inserted p b acts cells marks far sum h is whole =
    let f : Intervention → ℕ = λ i. marks_to (reach_with p b 0 i.branch) i.acts in
    let g : Intervention → ℕ = λ i. marks_to (reach p i.branch) i.acts in
    let stays : (i : Intervention) → f i ≡ g i = λ i. grind arith in
    let same = sum-same f g p.interventions (all_are (λ (i : Intervention). f i ≡ g i) p.interventions stays) in
    let cut : marks ≡ min (sum_by f p.interventions) (2 ^ 64 - 1) = h ∙ capped_marks-is (reach_with p b 0)
    p.interventions in
    let own : marks_to far acts ≡ marks_to (reach p b) acts = ap (λ n. marks_to n acts) is in
    let all : repeat_marks (with_intervention p b acts cells).plan
    ≡ sum_by g p.interventions + marks_to (reach p b) acts =
    sum_by_push g p.interventions (next_intervention p b acts cells) in
    over (repeat_marks (with_intervention p b acts cells).plan) sum (omega (arith, whole, cut, own, same, all))

-- with another one in the place of the one of an id
pub over-changed : (p : Plan) (id : ℕ) (acts : Acts) (cells : List CellSet) (marks : ℕ)
    → marks ≡ capped_changed (reach p) id acts p.interventions
    → nat_lt 8192 marks ≡ has_too_many_marks (with_changed_intervention p id acts cells).plan
unfolding has_too_many_marks
over-changed p id acts cells marks h =
    let f : Intervention → ℕ = λ i. marks_to (reach p i.branch) (if i.id == id then acts else i.acts) in
    let own : Intervention → Intervention = λ i. if i.id == id then acting acts cells i else i in
    let g : Intervention → ℕ = λ i. marks_to (reach p (own i).branch) (own i).acts in
    let all = sum-same f g p.interventions (all_are (λ (i : Intervention). f i ≡ g i) p.interventions (λ i. grind arith))
    ∙ sym (fold-map (λ s (i : Intervention). s + marks_to (reach p i.branch) i.acts) own 0 p.interventions) in
    over (repeat_marks (with_changed_intervention p id acts cells).plan) marks
    (h ∙ capped_changed-is p id acts p.interventions ∙ ap (λ n. min n (2 ^ 64 - 1)) all)

-- with a bookmark more
pub over-marked : (p : Plan) (b g : ℕ) (view : View) (marks : ℕ)
    → marks ≡ capped_marks (reach_with p b g) p.interventions
    → nat_lt 8192 marks ≡ has_too_many_marks (changed_bookmarks p b g view).plan
unfolding has_too_many_marks
over-marked p b g view marks h =
    let q : Plan = (changed_bookmarks p b g view).plan in
    let f : Intervention → ℕ = λ i. marks_to (reach_with p b g i.branch) i.acts in
    let k : Intervention → ℕ = λ i. marks_to (reach q i.branch) i.acts in
    let all = sum-same f k p.interventions (all_are (λ (i : Intervention). f i ≡ k i) p.interventions
    (λ i. ap (λ n. marks_to n i.acts) (sym (reach-marked p b g view i.branch)))) in
    over (repeat_marks q) marks
    (h ∙ capped_marks-is (reach_with p b g) p.interventions ∙ ap (λ n. min n (2 ^ 64 - 1)) all)

-- with a bookmark elsewhere
pub over-moved : (p : Plan) (id g marks : ℕ)
    → marks ≡ capped_marks (reach (with_moved_bookmark p id g).plan) p.interventions
    → nat_lt 8192 marks ≡ has_too_many_marks (with_moved_bookmark p id g).plan
unfolding has_too_many_marks
over-moved p id g marks h = over (repeat_marks (with_moved_bookmark p id g).plan) marks
    (h ∙ capped_marks-is (reach (with_moved_bookmark p id g).plan) p.interventions)

-- with a branch more
pub over-forked : (p : Plan) (parent g marks : ℕ) → IsSound p
    → marks ≡ capped_marks (reach_with p parent g) p.interventions
    → nat_lt 8192 marks ≡ has_too_many_marks (with_branch p parent g).plan
unfolding has_too_many_marks
over-forked p parent g marks sound h =
    let q : Plan = (with_branch p parent g).plan in
    let f : Intervention → ℕ = λ i. marks_to (reach_with p parent g i.branch) i.acts in
    let k : Intervention → ℕ = λ i. marks_to (reach q i.branch) i.acts in
    let all = sum-same f k p.interventions
    (all_so (λ (i : Intervention). IsPlaced p.branches i.branch (first_of i.acts)) (λ i. f i ≡ k i) p.interventions
    (λ i placed. ap (λ n. marks_to n i.acts)
    (sym (reach-forked p parent g i.branch sound.branches_sound.given placed.there)))
    sound.branches_sound.interventions_placed) in
    over (repeat_marks q) marks
    (h ∙ capped_marks-is (reach_with p parent g) p.interventions ∙ ap (λ n. min n (2 ^ 64 - 1)) all)
