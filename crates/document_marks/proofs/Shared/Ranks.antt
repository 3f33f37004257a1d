-- Marks by their ranks, and as tests tell them apart.
use Rattle.document_marks.proofs.Names.{AllByRecursion, List, Mark, [], ap₂, arith, clash, false, is_same, is_start, list_any, mark_at, mark_rank, nat_tests, refl, true, ◌<◌, ◌==◌, ◌^◌, ◌||◌, ◌∷◌, ◌≡◌, ◌≤◌}

-- whether two marks are one

pub same_true : (m n : Mark) → m ≡ n → is_same m n ≡ true
same_true m n one = grind (arith, nat_tests)

pub apart : (m n : Mark) → is_same m n ≡ false → m ≡ n → ⊥
apart m n miss one = clash (is_same m n) (same_true m n one) miss

-- ranks go by branches, and in a branch by generations

pub rank_branches : (m n : Mark) → m.branch < n.branch → mark_rank m < mark_rank n
rank_branches m n less = omega (arith, less)

pub rank_generation : (m n : Mark) → m.branch ≡ n.branch → mark_rank m < mark_rank n → m.generation < n.generation
rank_generation m n same less = omega (arith, same, less)

pub rank_within : (m n : Mark) → m.branch ≡ n.branch → n.generation ≤ 2 ^ 60 → m.generation < n.generation
    → mark_rank m < mark_rank n
rank_within m n same near less = omega (arith, same, near, less)

-- only the start has rank 0
pub rank_zero : (m : Mark) → mark_rank m ≡ 0 → is_start m ≡ true
rank_zero m zero = grind (arith, nat_tests)

-- a mark that is near enough is the only one of its rank
pub rank_is : (m n : Mark) → n.generation ≤ 2 ^ 60 → mark_rank m ≡ mark_rank n → m ≡ n
rank_is m n near same =
    let b : m.branch ≡ n.branch = omega (arith, near, same) in
    let g : m.generation ≡ n.generation = omega (arith, near, same, b) in
    ap₂ mark_at b g

pub rank_test : (n m : Mark) → n.generation ≤ 2 ^ 60 → (mark_rank n == mark_rank m) ≡ is_same n m
rank_test n m near = grind (arith, nat_tests)

-- so marks that are near enough have a rank where one of them is its mark
pub has_mark : (m : Mark) (ms : List Mark) → AllByRecursion (λ (n : Mark). n.generation ≤ 2 ^ 60) ms
    → list_any (λ n. mark_rank n == mark_rank m) ms ≡ list_any (λ n. is_same n m) ms
has_mark m [] near = refl
has_mark m (n ∷ ms) near = ap₂ (λ a b. a || b) (rank_test n m near.0) (has_mark m ms near.1)
