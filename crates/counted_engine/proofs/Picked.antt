-- What holds of the numbers that pass a test.
use Rattle.counted_engine.proofs.Names.{All, All-cons, All-nil, Bool, Contains, Contains-append_right, Contains-get_or, List, [], add-one, arith, cases_eq, cond, false, map, refl, suc, true, zero, ℕ, ◌+◌, ◌<◌, ◌∷◌, ◌≡◌, ◌≢◌}
use Rattle.std.specs.List.{AllPairs}
use Rattle.std.proofs.lemmas.List.Kept.{AllPairs-cons}
use Rattle.hash_engine.specs.Asked.{picked}

-- what holds of each number that passes
pub All-picked : {X : Type 0} (P : X → Type 0) (f : ℕ → X) (p : ℕ → Bool) (n : ℕ) → ((i : ℕ) → i < n → p i ≡ true → P (f i)) → All P (map f (picked p n))
unfolding picked
All-picked P f p zero holds = All-nil P
All-picked P f p (suc n) holds = grind (arith, All-cons P (f n) (map f (picked p n)), All-picked P f p n)

-- each number that passes is there
first-cond : {X : Type 0} (f : ℕ → X) (b : Bool) (n : ℕ) (xs : List ℕ) → b ≡ true → Contains (map f (cond b (n ∷ xs) xs)) (f n)
first-cond f b n xs is = grind (arith, Contains-get_or (map f (n ∷ xs)) 0 (f n))

later-cond : {X : Type 0} (f : ℕ → X) (b : Bool) (n : ℕ) (xs : List ℕ) (x : X) → Contains (map f xs) x → Contains (map f (cond b (n ∷ xs) xs)) x
later-cond f true n xs x has = Contains-append_right (f n ∷ []) (map f xs) x has
later-cond f false n xs x has = has

pub Contains-picked : {X : Type 0} (f : ℕ → X) (p : ℕ → Bool) (n i : ℕ) → i < n → p i ≡ true → Contains (map f (picked p n)) (f i)
unfolding picked
Contains-picked f p zero i below is = absurd (omega (arith, below))
Contains-picked f p (suc n) i below is =
    grind (arith, cases_eq i n, first-cond f (p n), later-cond f (p n), Contains-picked f p n i)

-- what differs for different numbers that pass
pub different-picked : {X : Type 0} (f : ℕ → X) (p : ℕ → Bool) (n : ℕ) → ((i j : ℕ) → j < i → i < n → p i ≡ true → p j ≡ true → f i ≢ f j) → AllPairs (λ s t. s ≢ t) (map f (picked p n))
unfolding picked
different-picked f p zero differ = λ i j d below there. absurd (omega (arith, there))
different-picked f p (suc n) differ =
    let here = All-picked (λ t. f n ≢ t) f p n in
    grind (arith, AllPairs-cons, here, different-picked f p n)

-- one number more
pub picked-next : (p : ℕ → Bool) (n : ℕ) → picked p (n + 1) ≡ cond (p n) (n ∷ picked p n) (picked p n)
unfolding picked
picked-next p n = simp add-one refl
