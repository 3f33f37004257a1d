-- Elements of lists by their ids, and what one of a list says.
use Rattle.desk_events.proofs.Names.{AllByRecursion, Bool, IdsRise, List, None, Some, [], arith, element_at, false, has_id, list_any, refl, true, ℕ, ◌<◌, ◌∷◌, ◌≡◌}
use Rattle.desk_events.proofs.Shared.Tests.{either_way, eq_true, eq_false}

-- one element that passes a test says something
pub any_so : {X Q : Type 0} (test : X → Bool) (P : X → Type 0) (xs : List X) → ((x : X) → P x → test x ≡ true → Q)
    → AllByRecursion P xs → list_any test xs ≡ true → Q
any_so test P [] says all there = absurd cc
any_so test P (x ∷ xs) says all there = either_way (test x) (says x all.0)
    (λ miss. any_so test P xs says all.1 (rw miss at there))

-- what two facts of each element say
pub all_both : {X : Type 0} (P Q R : X → Type 0) (xs : List X) → ((x : X) → P x → Q x → R x) → AllByRecursion P xs
    → AllByRecursion Q xs → AllByRecursion R xs
all_both P Q R [] says ps qs = tt
all_both P Q R (x ∷ xs) says ps qs = (says x ps.0 qs.0, all_both P Q R xs says ps.1 qs.1)

-- the element that is found passes the tests of the list
pub found_any : {X : Type 0} (id : X → ℕ) (test : X → Bool) (xs : List X) (n : ℕ) (x : X) → element_at id xs n ≡ Some x
    → test x ≡ true → list_any test xs ≡ true
found_any id test [] n x is pass = absurd cc
found_any id test (y ∷ xs) n x is pass = grind (arith, found_any id test xs n x)

-- where none is found, none has the id
pub none_listed : {X : Type 0} (id : X → ℕ) (xs : List X) (n : ℕ) → element_at id xs n ≡ None → has_id id xs n ≡ false
none_listed id [] n none = refl
none_listed {X} id (x ∷ xs) n none = grind (arith, none_listed id xs n)

pub found_listed : {X : Type 0} (id : X → ℕ) (xs : List X) (n : ℕ) (x : X) → element_at id xs n ≡ Some x
    → has_id id xs n ≡ true
found_listed id [] n x is = absurd cc
found_listed id (y ∷ xs) n x is = grind (arith, found_listed id xs n x)

-- each element is the one that is found by its id
pub each_found : {X : Type 0} (id : X → ℕ) (xs : List X) → IdsRise id xs
    → AllByRecursion (λ x. element_at id xs (id x) ≡ Some x) xs
each_found id [] rise = tt
each_found id (x ∷ xs) rise = (
  rw (eq_true (id x) (id x) refl) refl,
  all_both (λ y. id x < id y) (λ y. element_at id xs (id y) ≡ Some y) (λ y. element_at id (x ∷ xs) (id y) ≡ Some y) xs
      (λ y less found. rw (eq_false (id x) (id y) (λ same. omega (arith, same, less))) found) rise.0
      (each_found id xs rise.1),
)
