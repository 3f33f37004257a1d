-- Lists of elements with rising ids, cut in two, and with one more.
use Rattle.replay_laws.proofs.Names.{AllByRecursion, Bool, IdsRise, List, [], ap, arith, element_at, false, has_id, length, length-append, list_any, nat_tests, refl, subst, sym, true, without, ℕ, ◌++◌, ◌+◌, ◌<◌, ◌∷◌, ◌≡◌, ◌≤◌}

pub all_parts : {X : Type 0} (P : X → Type 0) (xs ys : List X) → AllByRecursion P (xs ++ ys)
    → AllByRecursion P xs × AllByRecursion P ys
all_parts P [] ys h = (tt, h)
all_parts P (x ∷ xs) ys h = let rest = all_parts P xs ys h.1 in ((h.0, rest.0), rest.1)

pub rise_parts : {X : Type 0} (id : X → ℕ) (xs ys : List X) → IdsRise id (xs ++ ys) → IdsRise id xs × IdsRise id ys
rise_parts id [] ys h = (tt, h)
rise_parts id (x ∷ xs) ys h =
    let rest = rise_parts id xs ys h.1 in ((((all_parts (λ y. id x < id y) xs ys h.0).0), rest.0), rest.1)

-- what holds of the element where a list is cut
pub at_cut : {X : Type 0} (P : X → Type 0) (xs done : List X) (x : X) (rest : List X) → done ++ x ∷ rest ≡ xs
    → AllByRecursion P xs → P x
at_cut P xs done x rest is all = (all_parts P done (x ∷ rest) (subst (AllByRecursion P) (sym is) all)).1.0

-- those before it are fewer
pub fewer_before : {X : Type 0} (xs done : List X) (x : X) (rest : List X) (n : ℕ) → done ++ x ∷ rest ≡ xs
    → length xs ≤ n → length done < n
fewer_before xs done x rest n is few =
    let long : length (done ++ x ∷ rest) ≡ length xs = ap length is in
    omega (arith, few, long, length-append done (x ∷ rest))

-- what is found in the first part, where no later element has the id
pub found_before : {X : Type 0} (id : X → ℕ) (xs ys : List X) (n : ℕ) → AllByRecursion (λ y. n < id y) ys
    → element_at id (xs ++ ys) n ≡ element_at id xs n
found_before id [] [] n h = refl
found_before id [] (y ∷ ys) n h = grind (arith, nat_tests, found_before id [] ys n h.1)
found_before id (x ∷ xs) ys n h = grind (arith, found_before id xs ys n h)

pub there_before : {X : Type 0} (id : X → ℕ) (xs ys : List X) (n : ℕ) → AllByRecursion (λ y. n < id y) ys
    → has_id id (xs ++ ys) n ≡ has_id id xs n
there_before id [] [] n h = refl
there_before id [] (y ∷ ys) n h = grind (arith, nat_tests, there_before id [] ys n h.1)
there_before id (x ∷ xs) ys n h = grind (arith, there_before id xs ys n h)

-- the last element is there
pub there_last : {X : Type 0} (id : X → ℕ) (xs : List X) (x : X) (n : ℕ) → id x ≡ n → has_id id (xs ++ x ∷ []) n ≡ true
there_last id [] x n is = grind (arith, nat_tests)
there_last id (y ∷ xs) x n is = grind (arith, there_last id xs x n is)

-- where each element has a greater id, none is left out
without_above : {X : Type 0} (id : X → ℕ) (xs : List X) (n : ℕ) → AllByRecursion (λ y. n < id y) xs
    → without id xs n ≡ xs
without_above id [] n h = refl
without_above id (x ∷ xs) n h = grind (arith, nat_tests, without_above id xs n h.1)

-- without the last element
pub without_last : {X : Type 0} (id : X → ℕ) (xs : List X) (x : X) (n : ℕ) → AllByRecursion (λ y. id y < n) xs
    → id x ≡ n → without id (xs ++ x ∷ []) n ≡ xs
without_last id [] x n below is = grind (arith, nat_tests)
without_last id (y ∷ xs) x n below is = grind (arith, nat_tests, without_last id xs x n below.1 is)

-- one at most is left out
pub length-without : {X : Type 0} (id : X → ℕ) (xs : List X) (n : ℕ) → IdsRise id xs
    → length xs ≤ length (without id xs n) + 1
length-without id [] n rise = omega arith
length-without id (x ∷ xs) n rise =
    grind (arith, nat_tests, without_above id xs (id x) rise.0, length-without id xs n rise.1)

pub all_both : {X : Type 0} (P Q R : X → Type 0) (xs : List X) → ((x : X) → P x → Q x → R x) → AllByRecursion P xs
    → AllByRecursion Q xs → AllByRecursion R xs
all_both P Q R [] f h k = tt
all_both P Q R (x ∷ xs) f h k = (f x h.0 k.0, all_both P Q R xs f h.1 k.1)

-- no element passes
pub none_any : {X : Type 0} (c : X → Bool) (xs : List X) → AllByRecursion (λ x. c x ≡ false) xs → list_any c xs ≡ false
none_any c [] h = refl
none_any c (x ∷ xs) h = grind (arith, none_any c xs h.1)
