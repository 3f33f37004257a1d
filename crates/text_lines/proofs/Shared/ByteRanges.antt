-- Bytes by their ranges, and tests on them.
use Rattle.text_lines.proofs.Names.{AllByRecursion, AllPass-from_list_all, Bool, List, all_so, ap₂, arith, false, is_ascii_digit, is_blank, list_all, nat_le, nat_tests, recursion_from_All, true, ℕ, ◌&&◌, ◌==◌, ◌||◌, ◌≡◌, ◌≢◌, ◌≤◌}

-- a decimal digit
abbrev pub IsDigit : ℕ → Type 0
IsDigit b = (48 ≤ b) × (b ≤ 57)

-- a byte from 33 to 126
abbrev pub IsVisible : ℕ → Type 0
IsVisible b = (33 ≤ b) × (b ≤ 126)

-- a byte from 32 to 126
abbrev pub IsPrinted : ℕ → Type 0
IsPrinted b = (32 ≤ b) × (b ≤ 126)

-- numbers that differ
pub differs : (a b : ℕ) → a ≢ b → (a == b) ≡ false
differs a b h = grind (arith, nat_tests)

abbrev pub is_printed : ℕ → Bool
is_printed b = nat_le 32 b && nat_le b 126

abbrev pub is_visible : ℕ → Bool
is_visible b = nat_le 33 b && nat_le b 126

-- what a test tells of each byte
pub all_tested : (P : ℕ → Type 0) (test : ℕ → Bool) (bs : List ℕ) → ((b : ℕ) → test b ≡ true → P b) → list_all test bs ≡ true → AllByRecursion P bs
all_tested P test bs f h = all_so (λ b. test b ≡ true) P bs f (recursion_from_All (λ b. test b ≡ true) bs (AllPass-from_list_all test bs h))

pub printed-tested : (bs : List ℕ) → list_all is_printed bs ≡ true → AllByRecursion IsPrinted bs
printed-tested bs h = all_tested IsPrinted is_printed bs (λ b k. (grind (arith, nat_tests), grind (arith, nat_tests))) h

pub visible-tested : (bs : List ℕ) → list_all is_visible bs ≡ true → AllByRecursion IsVisible bs
visible-tested bs h = all_tested IsVisible is_visible bs (λ b k. (grind (arith, nat_tests), grind (arith, nat_tests))) h

pub digit-visible : (b : ℕ) → IsDigit b → IsVisible b
digit-visible b h = (omega (arith, h.0), omega (arith, h.1))

pub visible-printed : (b : ℕ) → IsVisible b → IsPrinted b
visible-printed b h = (omega (arith, h.0), omega (arith, h.1))

pub visible-solid : (b : ℕ) → IsVisible b → is_blank b ≡ false
visible-solid b h = let k : 33 ≤ b = h.0 in ap₂ (λ c d. c || d) (differs b 32 (λ e. omega arith)) (differs b 9 (λ e. omega arith))

pub digit-test : (b : ℕ) → IsDigit b → is_ascii_digit b ≡ true
digit-test b h = let low : 48 ≤ b = h.0 in let high : b ≤ 57 = h.1 in grind (arith, nat_tests)
