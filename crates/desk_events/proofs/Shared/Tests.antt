-- What tests decide.
use Rattle.desk_events.proofs.Names.{Bool, arith, false, nat_le, nat_lt, nat_tests, refl, true, ℕ, ◌<◌, ◌==◌, ◌≡◌, ◌≢◌, ◌≤◌}

-- a test decides
pub either_way : {A : Type 0} (b : Bool) → (b ≡ true → A) → (b ≡ false → A) → A
either_way {A} b hit miss = elim b as (λ t. b ≡ t → A) [ true ↦ hit | false ↦ miss ] refl

pub clash : {A : Type 0} (b : Bool) → b ≡ true → b ≡ false → A
clash b h k = absurd cc

pub true_lt : (m n : ℕ) → nat_lt m n ≡ true → m < n
true_lt m n h = grind (arith, nat_tests)

pub false_lt : (m n : ℕ) → nat_lt m n ≡ false → n ≤ m
false_lt m n h = grind (arith, nat_tests)

pub true_le : (m n : ℕ) → nat_le m n ≡ true → m ≤ n
true_le m n h = grind (arith, nat_tests)

pub le_true : (m n : ℕ) → m ≤ n → nat_le m n ≡ true
le_true m n h = grind (arith, nat_tests)

pub eq_true : (m n : ℕ) → m ≡ n → (m == n) ≡ true
eq_true m n h = grind (arith, nat_tests)

pub eq_false : (m n : ℕ) → m ≢ n → (m == n) ≡ false
eq_false m n h = grind (arith, nat_tests)

pub true_eq : (m n : ℕ) → (m == n) ≡ true → m ≡ n
true_eq m n h = grind (arith, nat_tests)

pub false_eq : (m n : ℕ) → (m == n) ≡ false → m ≢ n
false_eq m n h = grind (arith, nat_tests)
