-- The marks of a document but the start as a list.
use Rattle.document_marks.proofs.Names.{All, All-weaker, AreMarksOf, Bool, IdsRise, Intervention, IsPermutation, IsSortedByKey, IsSound, Less, List, Mark, Plan, [], acting_marks, acts_on, all_so, ap, ap₂, arith, bookmark_mark, branch_marks}
use Rattle.document_marks.proofs.Names.{but_start, dedup, dedup_from, either_way, false, filter_passes, flat_map, forks_at, generations_to, get_or, is_mark, is_same, is_start, length, length-append, length-filter_le, length-map, list_any}
use Rattle.document_marks.proofs.Names.{list_any-append, list_any_at, map, mark_at, mark_rank, marks_at_most, marks_to, marks_within, nat_le, nat_tests, not, not-true, reach, recursion_from_All, refl, stands_at, sum_by-cons, sym, true}
use Rattle.document_marks.proofs.Names.{true_eq, ℕ, ◌&&◌, ◌*◌, ◌++◌, ◌+◌, ◌<◌, ◌==◌, ◌^◌, ◌||◌, ◌∙◌, ◌∷◌, ◌≡◌, ◌≤◌}
use Rattle.std.specs.List.Sorted.{IsStrictlySortedBy}
use Rattle.std.specs.Ordering.{is_eq, nat_cmp, on}
use Rattle.std.proofs.Math.Bool.{and-false, and_comm, and-or_distrib_right, or_assoc, or_self_left}
use Rattle.std.proofs.lemmas.Cmp.{nat_cmp_total, on_total, ranked}
use Rattle.std.proofs.lemmas.List.Filters.{All-dedup}
use Rattle.std.proofs.lemmas.List.Kept.{IsStrictlySortedBy-dedup}
use Rattle.std.proofs.lemmas.List.Sorted.{All-permutation, length_permutation, list_any-IsPermutation}
use Rattle.std.proofs.lemmas.Map.Views.{any-filter_same}
use Rattle.schedule.specs.declared.branch.Branch.{Branch}
use Rattle.schedule.specs.declared.document.Bookmark.{Bookmark}
use Rattle.schedule.specs.Scratch.{acts_at}
use Rattle.schedule.proofs.Shared.Acts.{any-generations, few-generations}
use Rattle.desk_events.proofs.Shared.Marks.{mark_near, same_mark}
use Rattle.document_marks.proofs.Shared.Ranks.{has_mark, same_true}

-- the marks that are gathered: the ends of branches, those of bookmarks and those of interventions
abbrev pub gathered : Plan → List Mark
gathered p =
    flat_map branch_marks p.branches ++ map bookmark_mark p.bookmarks
    ++ flat_map (acting_marks (reach p)) p.interventions

-- there are few

pub few_acting : (far : ℕ → ℕ) (is : List Intervention)
    → length (flat_map (acting_marks far) is) ≤ length is + marks_within far is
few_acting far [] = omega arith
few_acting far (i ∷ is) =
    let rest = few_acting far is in
    let whole = length-append (acting_marks far i) (flat_map (acting_marks far) is) in
    let long = length-map (generations_to (far i.branch) i.acts) (mark_at i.branch) in
    let few = few-generations (far i.branch) i.acts in
    let sum = sum_by-cons (λ (j : Intervention). marks_to (far j.branch) j.acts) i is in
    omega (arith, rest, whole, long, few, sum)

few_gathered : (p : Plan) → length (gathered p) ≤ marks_at_most p
few_gathered p =
    let ends = flat_map branch_marks p.branches in
    let acting = few_acting (reach p) p.interventions in
    let whole = length-append (ends ++ map bookmark_mark p.bookmarks) (flat_map (acting_marks (reach p)) p.interventions) in
    let front = length-append ends (map bookmark_mark p.bookmarks) in
    let stands = length-map p.bookmarks bookmark_mark in
    let twice = two_each p.branches in
    omega (arith, acting, whole, front, stands, twice)
  where
    two_each : (xs : List Branch) → length (flat_map branch_marks xs) ≡ 2 * length xs
    two_each [] = refl
    two_each (x ∷ xs) = let rest = two_each xs in omega (arith, rest)

-- they are the marks of the document

module _ (p : Plan) (m : Mark) where
  abbrev is_it : Mark → Bool
  is_it n = is_same n m

  -- whether the mark is reached
  abbrev near : Bool
  near = nat_le m.generation (reach p m.branch)

  forks : (xs : List Branch) → list_any is_it (flat_map branch_marks xs) ≡ list_any (λ x. forks_at x m) xs
  forks [] = refl
  forks (x ∷ xs) =
      let at = x.fork == m.generation in
      sym (or_assoc (x.id == m.branch && at) (x.parent == m.branch && at) (list_any is_it (flat_map branch_marks xs)))
      ∙ ap₂ (λ s t. s || t) (sym (and-or_distrib_right (x.id == m.branch) (x.parent == m.branch) at)) (forks xs)

  stands : (bs : List Bookmark) → list_any is_it (map bookmark_mark bs) ≡ list_any (λ b. stands_at b m) bs
  stands [] = refl
  stands (b ∷ bs) = ap (λ t. stands_at b m || t) (stands bs)

  in_branch : (b : ℕ) (gs : List ℕ)
      → list_any is_it (map (mark_at b) gs) ≡ (b == m.branch && list_any (λ g. g == m.generation) gs)
  in_branch b [] = sym (and-false (b == m.branch))
  in_branch b (g ∷ gs) = grind (arith, nat_tests, in_branch b gs)

  acts : (i : Intervention)
      → list_any is_it (acting_marks (reach p) i) ≡ (near && acts_at i m.branch m.generation)
  acts i =
      in_branch i.branch (generations_to (reach p i.branch) i.acts)
      ∙ ap (λ t. i.branch == m.branch && t) (any-generations (reach p i.branch) i.acts m.generation)
      ∙ either_way (i.branch == m.branch)
      (λ hit. rw hit
      (ap (λ b. acts_on i.acts m.generation && nat_le m.generation (reach p b)) (true_eq i.branch m.branch hit)
      ∙ and_comm (acts_on i.acts m.generation) near))
      (λ miss. rw miss (sym (and-false near)))

  all_act : (is : List Intervention)
      → list_any is_it (flat_map (acting_marks (reach p)) is)
      ≡ (near && list_any (λ (i : Intervention). acts_at i m.branch m.generation) is)
  all_act [] = sym (and-false near)
  all_act (i ∷ is) =
      grind (
        arith,
        list_any-append is_it (acting_marks (reach p) i) (flat_map (acting_marks (reach p)) is),
        acts i,
        all_act is,
      )

  gathered_are : is_start m ≡ false → list_any is_it (gathered p) ≡ is_mark p m
  gathered_are beside =
      let ends = flat_map branch_marks p.branches in
      let acting = flat_map (acting_marks (reach p)) p.interventions in
      list_any-append is_it (ends ++ map bookmark_mark p.bookmarks) acting
      ∙ ap₂ (λ s t. s || t)
      (list_any-append is_it ends (map bookmark_mark p.bookmarks)
      ∙ ap₂ (λ s t. s || t) (forks p.branches) (stands p.bookmarks))
      (all_act p.interventions)
      ∙ rw beside
      (or_assoc (list_any (λ x. forks_at x m) p.branches) (list_any (λ b. stands_at b m) p.bookmarks)
      (near && list_any (λ (i : Intervention). acts_at i m.branch m.generation) p.interventions))

-- marks by rank, each rank once

abbrev pub same_rank : Mark → Mark → Bool
same_rank m n = mark_rank m == mark_rank n

-- a rank is where it was
any_once : (r : ℕ) (ms : List Mark)
    → list_any (λ m. mark_rank m == r) (dedup same_rank ms) ≡ list_any (λ m. mark_rank m == r) ms
any_once r [] = refl
any_once r (m ∷ ms) = any_from m ms
  where
    any_from : (k : Mark) (ms : List Mark)
        → list_any (λ m. mark_rank m == r) (dedup_from same_rank k ms)
        ≡ (mark_rank k == r || list_any (λ m. mark_rank m == r) ms)
    any_from k [] = refl
    any_from k (m ∷ ms) =
        let rest = list_any (λ n. mark_rank n == r) ms in
        either_way (same_rank m k)
        (λ hit. rw hit
        (any_from k ms ∙ sym (or_self_left (mark_rank k == r) rest)
        ∙ ap (λ n. mark_rank k == r || (n == r || rest)) (sym (true_eq (mark_rank m) (mark_rank k) hit))))
        (λ miss. rw miss (ap (λ t. mark_rank k == r || t) (any_from m ms)))

rise_once : (ms : List Mark) → IsSortedByKey mark_rank nat_cmp ms → IdsRise mark_rank (dedup same_rank ms)
unfolding IsStrictlySortedBy
rise_once ms up =
    risen (dedup same_rank ms)
    (IsStrictlySortedBy-dedup (on_total mark_rank nat_cmp_total) (λ m n. as_one (mark_rank m) (mark_rank n)) ms up)
  where
    as_one : (a b : ℕ) → (a == b) ≡ is_eq (nat_cmp a b)
    as_one a b = grind (arith, nat_tests)

    risen : (ms : List Mark) → IsStrictlySortedBy (on mark_rank nat_cmp) ms → IdsRise mark_rank ms
    risen [] up = tt
    risen (m ∷ ms) up = (
      all_so (λ n. nat_cmp (mark_rank m) (mark_rank n) ≡ Less) (λ n. mark_rank m < mark_rank n) ms
          (λ n less. ranked (mark_rank m) (mark_rank n) Less (sym less)) up.0,
      risen ms up.1,
    )

-- those that are gathered, in order and each once, are the marks of the document

module _ (p : Plan) (sound : IsSound p) (ms : List Mark) (same : IsPermutation (but_start (gathered p)) ms) where
  abbrev IsNear : Mark → Type 0
  IsNear m = m.generation ≤ 2 ^ 60

  above : All (λ m. is_start m ≡ false) ms
  above =
      All-permutation (λ m. is_start m ≡ false) (but_start (gathered p)) ms same
      (All-weaker (λ m. not (is_start m) ≡ true) (λ m. is_start m ≡ false) (λ m k. not-true (is_start m) k)
      (but_start (gathered p)) (filter_passes (λ m. not (is_start m)) (gathered p)))

  are : (m : Mark) → is_start m ≡ false → list_any (λ n. is_same n m) ms ≡ is_mark p m
  are m beside =
      sym (list_any-IsPermutation (λ n. is_same n m) (but_start (gathered p)) ms same)
      ∙ any-filter_same (λ n. is_same n m) (λ n. not (is_start n)) true
      (λ n hit. ap (λ k. not (is_start k)) (same_mark n m hit) ∙ ap not beside) (gathered p)
      ∙ gathered_are p m beside

  all_near : All IsNear ms
  all_near k d low =
      let m = get_or ms k d in
      mark_near p m sound
      (sym (are m (above k d low)) ∙ list_any_at (λ n. is_same n m) ms k d low (same_true m m refl))

  pub AreMarksOf-once : (once : List Mark) → once ≡ dedup same_rank ms → IsSortedByKey mark_rank nat_cmp ms
      → length once ≤ length ms → AreMarksOf p (dedup same_rank ms)
  AreMarksOf-once once is up short =
      let near_once = recursion_from_All IsNear (dedup same_rank ms) (All-dedup same_rank IsNear ms all_near) in
      record {
        rise = rise_once ms up;
        near = near_once;
        above = recursion_from_All (λ m. is_start m ≡ false) (dedup same_rank ms)
            (All-dedup same_rank (λ m. is_start m ≡ false) ms above);
        are = λ m beside.
            sym (has_mark m (dedup same_rank ms) near_once)
            ∙ any_once (mark_rank m) ms
            ∙ has_mark m ms (recursion_from_All IsNear ms all_near)
            ∙ are m beside;
        few =
            let all = length_permutation (but_start (gathered p)) ms same in
            let beside = length-filter_le (λ m. not (is_start m)) (gathered p) in
            let few = few_gathered p in
            let one = ap length is in
            omega (arith, short, all, beside, few, one);
      }
