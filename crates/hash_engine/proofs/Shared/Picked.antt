-- The numbers that pass a test.
use Rattle.hash_engine.proofs.Names.{Bool, arith, cases_eq, false, length, refl, suc, true, zero, ℕ, ◌<◌, ◌≡◌, ◌≢◌, ◌≤◌}
use Rattle.hash_engine.specs.Asked.{picked}

-- tests that agree
pub picked-same : (p q : ℕ → Bool) (n : ℕ) → ((i : ℕ) → i < n → p i ≡ q i) → picked p n ≡ picked q n
unfolding picked
picked-same p q zero same = refl
picked-same p q (suc n) same = grind (arith, picked-same p q n)

-- a test that no number from m on passes
pub picked-none : (p : ℕ → Bool) (m n : ℕ) → m ≤ n → ((i : ℕ) → m ≤ i → i < n → p i ≡ false) → picked p n ≡ picked p m
unfolding picked
picked-none p m zero few none = grind arith
picked-none p m (suc n) few none = grind (arith, cases_eq m (suc n), picked-none p m n)

-- a test that one number more passes
pub picked-more : (p q : ℕ → Bool) (j n : ℕ) → j < n → p j ≡ false → q j ≡ true → ((i : ℕ) → i ≢ j → p i ≡ q i) → length (picked q n) ≡ suc (length (picked p n))
unfolding picked
picked-more p q j zero below was is others = absurd (omega (arith, below))
picked-more p q j (suc n) below was is others =
    grind (arith, cases_eq j n, picked-same p q n, picked-more p q j n)
