-- What the list of branches says of each by its id.
use Rattle.schedule.proofs.Names.{AllByRecursion, Branch, IfSome, IsForked, IsPlaced, List, None, Option, Plan, Some, [], ap, arith, branch_id, element_at, false, filter, fork_of, has_bookmarks, has_branch, has_children, has_id}
use Rattle.schedule.proofs.Names.{has_interventions, is_in_use, nat_tests, not, option_map_or, or_parts, parent_of, refl, true, ℕ, ◌++◌, ◌<◌, ◌==◌, ◌^◌, ◌∷◌, ◌≡◌, ◌≤◌}

-- the element that is found has the id, and what holds of each
pub element_at-is : {X : Type 0} (id : X → ℕ) (P : X → Type 0) (xs : List X) (n : ℕ) → AllByRecursion P xs
    → IfSome (element_at id xs n) (λ x. (id x ≡ n) × P x)
element_at-is id P [] n h = tt
element_at-is id P (x ∷ xs) n h = grind (arith, nat_tests, element_at-is id P xs n h.1)

-- what holds of a number that is read off a branch, where it holds of every branch of the list and
-- of 0 elsewhere
read_off : (f : Branch → ℕ) (P : Branch → Type 0) (Q : ℕ → Type 0) (branches : List Branch) (b : ℕ)
    → AllByRecursion P branches → ((x : Branch) → x.id ≡ b → P x → Q (f x)) → Q 0
    → Q (option_map_or f (element_at branch_id branches b) 0)
read_off f P Q branches b all listed other =
    elim (element_at branch_id branches b) as (λ o. IfSome o (λ (x : Branch). (x.id ≡ b) × P x)
    → Q (option_map_or f o 0)) [
      | None ↦ λ _. other
      | Some x ↦ λ h. listed x h.0 h.1
    ] (element_at-is branch_id P branches b all)

-- branch 0 isn't listed
unlisted : (branches : List Branch) → AllByRecursion (λ (x : Branch). 0 < x.id) branches
    → element_at branch_id branches 0 ≡ None
unlisted [] h = refl
unlisted (x ∷ branches) h = grind (arith, nat_tests, unlisted branches h.1)

listed_above : (all branches : List Branch) → AllByRecursion (IsForked all) branches
    → AllByRecursion (λ (x : Branch). 0 < x.id) branches
listed_above all [] h = tt
listed_above all (x ∷ branches) h = ((let k = h.0.later in omega (arith, k)), listed_above all branches h.1)

pub fork_of-zero : (branches : List Branch) → AllByRecursion (IsForked branches) branches → fork_of branches 0 ≡ 0
fork_of-zero branches h = ap (λ (o : Option Branch). option_map_or (λ (x : Branch). x.fork) o 0)
    (unlisted branches (listed_above branches branches h))

-- a parent has a lesser id
pub parents_before : (branches : List Branch) → AllByRecursion (IsForked branches) branches → (b : ℕ) → 0 < b
    → parent_of branches b < b
parents_before branches h b above = read_off (λ x. x.parent) (IsForked branches) (λ n. n < b) branches b h
    (λ x is k. let l = k.later in omega (arith, is, l)) above

-- and is there
pub parents_there : (branches : List Branch) → AllByRecursion (IsForked branches) branches → (b : ℕ)
    → has_branch branches (parent_of branches b) ≡ true
parents_there branches h b = read_off (λ x. x.parent) (IsForked branches)
    (λ n. has_branch branches n ≡ true) branches b h (λ x is k. k.placed.there) refl

-- a fork is near
pub forks_near : (branches : List Branch) → AllByRecursion (IsForked branches) branches → (b : ℕ)
    → fork_of branches b ≤ 2 ^ 60
forks_near branches h b = read_off (λ x. x.fork) (IsForked branches) (λ n. n ≤ 2 ^ 60) branches b h (λ x is k. k.near)
    (omega arith)

-- and at or above that of the parent
pub forks_rise : (branches : List Branch) → AllByRecursion (IsForked branches) branches → (b : ℕ)
    → fork_of branches (parent_of branches b) ≤ fork_of branches b
forks_rise branches h b =
    let root = fork_of-zero branches h in
    let is = element_at-is branch_id (IsForked branches) branches b h in
    elim (element_at branch_id branches b)
    as (λ o. IfSome o (λ (x : Branch). (x.id ≡ b) × IsForked branches x)
    → fork_of branches (option_map_or (λ (x : Branch). x.parent) o 0)
    ≤ option_map_or (λ (x : Branch). x.fork) o 0)
    [ None ↦ λ _. omega (arith, root) | Some x ↦ λ k. k.1.placed.from_fork ] is

-- no branch has an id above the last that was given
listed_given : (branches : List Branch) (last b : ℕ) → AllByRecursion (λ (x : Branch). x.id ≤ last) branches
    → last < b → has_id branch_id branches b ≡ false
listed_given [] last b h above = refl
listed_given (x ∷ branches) last b h above = grind (arith, nat_tests, listed_given branches last b h.1 above)

-- one more branch at the end changes none of a lesser id
element_at-more : (branches : List Branch) (x : Branch) (b : ℕ) → (x.id == b) ≡ false
    → element_at branch_id (branches ++ x ∷ []) b ≡ element_at branch_id branches b
element_at-more [] x b other = grind arith
element_at-more (y ∷ branches) x b other = grind (arith, element_at-more branches x b other)

has_id-more : (branches : List Branch) (x : Branch) (b : ℕ) → has_id branch_id branches b ≡ true
    → has_id branch_id (branches ++ x ∷ []) b ≡ true
has_id-more [] x b h = absurd cc
has_id-more (y ∷ branches) x b h = grind (arith, has_id-more branches x b)

pub has_branch-more : (branches : List Branch) (x : Branch) (b : ℕ) → has_branch branches b ≡ true
    → has_branch (branches ++ x ∷ []) b ≡ true
has_branch-more branches x b h = grind (arith, has_id-more branches x b)

-- a branch that is there has an id up to the last that was given
pub has_branch-given : (branches : List Branch) (last b : ℕ) → AllByRecursion (λ (x : Branch). x.id ≤ last) branches
    → has_branch branches b ≡ true → b ≤ last
has_branch-given branches last b given there =
    let none = listed_given branches last b given in grind (arith, nat_tests, none)

-- what the list says of a branch that is there stays where one is added at the end
pub element_at-added : (branches : List Branch) (x : Branch) (last b : ℕ)
    → AllByRecursion (λ (y : Branch). y.id ≤ last) branches → last < x.id → has_branch branches b ≡ true
    → element_at branch_id (branches ++ x ∷ []) b ≡ element_at branch_id branches b
element_at-added branches x last b given above there =
    element_at-more branches x b
    (let low = has_branch-given branches last b given there in grind (arith, nat_tests))

pub IsPlaced-more : (branches : List Branch) (x : Branch) (last b g : ℕ)
    → AllByRecursion (λ (y : Branch). y.id ≤ last) branches → last < x.id → IsPlaced branches b g
    → IsPlaced (branches ++ x ∷ []) b g
IsPlaced-more branches x last b g given above h = record {
  there = has_branch-more branches x b h.there;
  from_fork = rw (element_at-added branches x last b given above h.there) h.from_fork;
}

-- another branch's removal changes none
pub element_at-without : (branches : List Branch) (n b : ℕ) → (b == n) ≡ false
    → element_at branch_id (filter (λ (x : Branch). not (x.id == n)) branches) b ≡ element_at branch_id branches b
element_at-without [] n b other = refl
element_at-without (x ∷ branches) n b other = grind (arith, nat_tests, element_at-without branches n b other)

has_id-without : (branches : List Branch) (n b : ℕ) → (b == n) ≡ false → has_id branch_id branches b ≡ true
    → has_id branch_id (filter (λ (x : Branch). not (x.id == n)) branches) b ≡ true
has_id-without [] n b other h = absurd cc
has_id-without (x ∷ branches) n b other h = grind (arith, nat_tests, has_id-without branches n b other)

pub has_branch-without : (branches : List Branch) (n b : ℕ) → (b == n) ≡ false → has_branch branches b ≡ true
    → has_branch (filter (λ (x : Branch). not (x.id == n)) branches) b ≡ true
has_branch-without branches n b other h = grind (arith, has_id-without branches n b other)

pub IsPlaced-without : (branches : List Branch) (n b g : ℕ) → (b == n) ≡ false → IsPlaced branches b g
    → IsPlaced (filter (λ (x : Branch). not (x.id == n)) branches) b g
IsPlaced-without branches n b g other h = record {
  there = has_branch-without branches n b other h.there;
  from_fork = rw (element_at-without branches n b other) h.from_fork;
}

-- nothing is in a branch that isn't in use, and none leaves it
pub record IsUnused (p : Plan) (n : ℕ) : Type 0 where
  pub beside : (n == 0) ≡ false
  pub interventions : has_interventions p.interventions n ≡ false
  pub bookmarks : has_bookmarks p.bookmarks n ≡ false
  pub children : has_children p.branches n ≡ false

pub unused : (p : Plan) (n : ℕ) → is_in_use p n ≡ false → IsUnused p n
unused p n free = grind (arith, or_parts)
