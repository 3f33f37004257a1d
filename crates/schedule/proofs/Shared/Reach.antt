-- The greatest of a number and of what some elements of a list say.
use Rattle.schedule.proofs.Names.{AllByRecursion, Bookmark, Bool, Branch, IsMark, IsReach, List, Plan, [], all_so, arith, farthest_bookmark, farthest_fork, fold, fork_of, if◌then◌else◌, inl, inr, list_any, max, nat_tests, or_right, reach}
use Rattle.schedule.proofs.Names.{refl, subst, sym, true, ℕ, ◌&&◌, ◌==◌, ◌∙◌, ◌∷◌, ◌≡◌, ◌≤◌, ◌⊎◌}

-- the greatest so far, after one more element
abbrev pub more : {X : Type 0} → (X → Bool) → (X → ℕ) → ℕ → X → ℕ
more c f far x = if c x then max far (f x) else far

-- and after all of them
abbrev farthest : {X : Type 0} → (X → Bool) → (X → ℕ) → ℕ → List X → ℕ
farthest c f n xs = fold (more c f) n xs

pub more-from : {X : Type 0} (c : X → Bool) (f : X → ℕ) (n : ℕ) (x : X) → n ≤ more c f n x
more-from c f n x = grind arith

more-own : {X : Type 0} (c : X → Bool) (f : X → ℕ) (n : ℕ) (x : X) → c x ≡ true → f x ≤ more c f n x
more-own c f n x h = grind arith

farthest-from : {X : Type 0} (c : X → Bool) (f : X → ℕ) (n : ℕ) (xs : List X) → n ≤ farthest c f n xs
farthest-from c f n [] = omega arith
farthest-from c f n (x ∷ xs) = omega (arith, more-from c f n x, farthest-from c f (more c f n x) xs)

farthest-each : {X : Type 0} (c : X → Bool) (f : X → ℕ) (n : ℕ) (xs : List X)
    → AllByRecursion (λ x. c x ≡ true → f x ≤ farthest c f n xs) xs
farthest-each c f n [] = tt
farthest-each c f n (x ∷ xs) = (
  (λ h. omega (arith, more-own c f n x h, farthest-from c f (more c f n x) xs)),
  farthest-each c f (more c f n x) xs,
)

-- it is the number, or that of an element that counts
abbrev IsOne : {X : Type 0} → (X → Bool) → (X → ℕ) → ℕ → ℕ → List X → Type 0
IsOne c f far n xs = (far ≡ n) ⊎ (list_any (λ x. c x && f x == far) xs ≡ true)

one-more : {X : Type 0} (c : X → Bool) (f : X → ℕ) (far n : ℕ) (x : X) (xs : List X) → far ≡ more c f n x
    → IsOne c f far n (x ∷ xs)
one-more c f far n x xs h = grind (arith, nat_tests)

farthest-is : {X : Type 0} (c : X → Bool) (f : X → ℕ) (n : ℕ) (xs : List X) → IsOne c f (farthest c f n xs) n xs
farthest-is c f n [] = inl refl
farthest-is c f n (x ∷ xs) =
    let far = farthest c f (more c f n x) xs in
    elim (farthest-is c f (more c f n x) xs) as (λ _. IsOne c f far n (x ∷ xs)) [
      | inl is ↦ one-more c f far n x xs is
      | inr found ↦ inr (or_right (c x && f x == far) (list_any (λ y. c y && f y == far) xs) found)
    ]

-- the reach of a branch is the greatest of its fork, its bookmarks and the forks out of it
pub reach-greatest : (p : Plan) (b : ℕ) → IsReach p b (reach p b)
reach-greatest p b =
    let fork = fork_of p.branches b in
    let marked : Bookmark → Bool = λ k. k.branch == b in
    let leaving : Branch → Bool = λ x. x.parent == b in
    let out : ℕ = farthest_fork p.branches b fork in
    let far : ℕ = farthest_bookmark p.bookmarks b out in
    let above : out ≤ far = farthest-from marked (λ k. k.generation) out p.bookmarks in
    let from : fork ≤ out = farthest-from leaving (λ x. x.fork) fork p.branches in
    record {
      from_fork = omega (arith, above, from);
      bookmarks = farthest-each marked (λ k. k.generation) out p.bookmarks;
      forks = all_so (λ (x : Branch). leaving x ≡ true → x.fork ≤ out)
          (λ (x : Branch). leaving x ≡ true → x.fork ≤ far) p.branches
          (λ x k e. let l : x.fork ≤ out = k e in omega (arith, l, above))
          (farthest-each leaving (λ x. x.fork) fork p.branches);
      is = elim (farthest-is marked (λ k. k.generation) out p.bookmarks) as (λ _. (far ≡ fork) ⊎ (IsMark p b far)) [
        | inl same ↦ elim (farthest-is leaving (λ x. x.fork) fork p.branches)
            as (λ _. (far ≡ fork) ⊎ (IsMark p b far)) [
              | inl root ↦ inl (same ∙ root)
              | inr found ↦ inr (inr (subst (λ n. list_any (λ (x : Branch). x.parent == b && x.fork == n) p.branches
                  ≡ true) (sym same) found))
            ]
        | inr found ↦ inr (inl found)
      ];
    }
