-- What holds of sets of states, and of the words in which they are kept.
use Rattle.std.proofs.Common.{◌≡◌, ℕ, zero, suc, ◌+◌, ◌-◌, ◌*◌, ◌/◌, ◌%◌, ◌^◌, ◌<◌, ◌≤◌, Bool, true, false, cond, ◌&&◌, List, [], ◌∷◌, length, get_or, map, refl, sym, ap, ◌∙◌, inl, inr, arith}
use Rattle.std.specs.Prelude.{nat_eq, ◌==◌}
use Rattle.std.specs.Int.{bit_at}
use Rattle.std.specs.List.{filter, range_with_len}
use native.Mathlib.Nat.{pow-suc}
use Rattle.std.proofs.Math.Bool.{and-true}
use Rattle.std.proofs.lemmas.Bool.{eqb-true, eq-eqb, ne_eqb, cases_eq}
use Rattle.std.proofs.lemmas.List.Folds.{list_any_at}
use Rattle.std.proofs.lemmas.List.FromFn.{get_or-range_with_len, length-range_with_len}
use Rattle.std.proofs.lemmas.Map.Views.{any-filter_same}
use Rattle.std.proofs.lemmas.Nat.Bits.{bit_at-suc, bit_at_lowest, bit_at-lt}
use Rattle.table_lines.specs.States.{AreWords, has, is_bit_set, number_of_bits, rising, word_of, words_of}
use Rattle.table_lines.specs.declared.state_set.StateSet.TheInside.{Inside}

-- numbers that pass a test, of n from a on

has_passing : (p : ℕ → Bool) (s : ℕ) (xs : List ℕ) → has (filter p xs) s ≡ (p s && has xs s)
has_passing p s xs = any-filter_same (nat_eq s) p (p s) (λ k h. ap p (sym (eqb-true s k h))) xs

has_range : (a n s : ℕ) → a ≤ s → s < a + n → has (range_with_len a n) s ≡ true
has_range a n s low high =
    let e : get_or (range_with_len a n) (s - a) 0 ≡ a + (s - a) =
    get_or-range_with_len a n (s - a) 0 (omega arith) in
    list_any_at (nat_eq s) (range_with_len a n) (s - a) 0 (rw length-range_with_len (omega arith))
    (eq-eqb s _ (omega arith))

passing-agree : (p q : ℕ → Bool) (a n : ℕ) → ((s : ℕ) → a ≤ s → s < a + n → p s ≡ q s)
    → filter p (range_with_len a n) ≡ filter q (range_with_len a n)
passing-agree p q a zero h = refl
passing-agree p q a (suc n) h =
    rw (
      h a (omega arith) (omega arith),
      passing-agree p q (a + 1) n
          (λ s l m. h s (omega arith) (omega arith)),
    )
    refl

passing_none : (a n : ℕ) → filter (λ s. false) (range_with_len a n) ≡ []
passing_none a zero = refl
passing_none a (suc n) = passing_none (a + 1) n

passing_one : (t a n : ℕ) → a ≤ t → t < a + n → filter (λ s. s == t) (range_with_len a n) ≡ t ∷ []
passing_one t a zero l h = absurd (omega arith)
passing_one t a (suc n) l h =
    elim (cases_eq a t) [
      | inl e ↦ rw (eq-eqb a t e, e)
          (ap (λ xs. t ∷ xs)
          (passing-agree (λ s. s == t) (λ s. false) (t + 1) n
          (λ s m k. ne_eqb s t (omega arith))
          ∙ passing_none (t + 1) n))
      | inr ne ↦ rw (ne_eqb a t ne) (passing_one t (a + 1) n (omega arith) (omega arith))
    ]

-- what `rising` has

-- a rising list has the states that pass its test
pub has-rising : (p : ℕ → Bool) (s : ℕ) → s < 256 → has (rising p) s ≡ p s
unfolding rising
has-rising p s h =
    has_passing p s (range_with_len 0 256)
    ∙ ap (λ (b : Bool). p s && b) (has_range 0 256 s (omega arith) (omega arith)) ∙ and-true (p s)

-- tests that agree on the states have the same members
pub rising-agree : (p q : ℕ → Bool) → ((s : ℕ) → s < 256 → p s ≡ q s) → rising p ≡ rising q
unfolding rising
rising-agree p q h = passing-agree p q 0 256 (λ s _ k. h s (omega arith))

pub rising_none : (p : ℕ → Bool) → ((s : ℕ) → s < 256 → p s ≡ false) → rising p ≡ []
unfolding rising
rising_none p h =
    passing-agree p (λ s. false) 0 256 (λ s _ k. h s (omega arith)) ∙ passing_none 0 256

pub rising_one : (t : ℕ) → t < 256 → rising (λ s. s == t) ≡ t ∷ []
unfolding rising
rising_one t h = passing_one t 0 256 (omega arith) (omega arith)

-- the words

half_of : (n m : ℕ) → n < 2 ^ suc m → n / 2 < 2 ^ m
half_of n m h = omega (arith, pow-suc 2 m, h)

digit_value : (n : ℕ) → n < 2 → cond (n == 1) 1 0 ≡ n
digit_value zero h = refl
digit_value (suc zero) h = refl
digit_value (suc (suc n)) h = absurd (omega (arith, h))

-- a number is that of its digits
digits : (word n a : ℕ) (f : ℕ → Bool) → ((i : ℕ) → i < n → f (a + i) ≡ (bit_at word i == 1))
    → word < 2 ^ n → number_of_bits (map f (range_with_len a n)) ≡ word
unfolding number_of_bits
digits word zero a f each low = omega (arith, low)
digits word (suc n) a f each low =
    let here : a + 0 ≡ a = omega arith in
    let first : f a ≡ (bit_at word 0 == 1) = sym (ap f here) ∙ each 0 (omega arith) in
    let value : cond (f a) 1 0 ≡ word % 2 =
    ap (λ b. cond b 1 0) first ∙ digit_value (bit_at word 0) (bit_at-lt word 0)
    ∙ bit_at_lowest word in
    let later : (i : ℕ) → i < n → f (a + 1 + i) ≡ (bit_at (word / 2) i == 1) = λ i h.
    let there : a + suc i ≡ a + 1 + i = omega arith in
    sym (ap f there) ∙ each (suc i) (omega (arith, h)) ∙ ap (λ k. k == 1) (bit_at-suc word i) in
    let rest : number_of_bits (map f (range_with_len (a + 1) n)) ≡ word / 2 =
    digits (word / 2) n (a + 1) f later (half_of word n low) in
    omega (arith, value, rest)

-- a word of a set that is kept in words is that word
pub word-kept : (words : List ℕ) (q : ℕ) → q < 4 → get_or words q 0 < 2 ^ 64
    → word_of (rising (is_bit_set words)) q ≡ get_or words q 0
unfolding word_of
word-kept words q h low =
    digits (get_or words q 0) 64 (64 * q) (has (rising (is_bit_set words))) (λ i l.
    let word : (64 * q + i) / 64 ≡ q = omega arith in
    let place : (64 * q + i) % 64 ≡ i = omega arith in
    has-rising (is_bit_set words) (64 * q + i) (omega arith)
    ∙ ap (λ n. bit_at (get_or words n 0) ((64 * q + i) % 64) == 1) word
    ∙ ap (λ n. bit_at (get_or words q 0) n == 1) place) low

-- four words, one after another
pub four_words : (words : List ℕ) → length words ≡ 4
    → get_or words 0 0 ∷ get_or words 1 0 ∷ get_or words 2 0 ∷ get_or words 3 0 ∷ [] ≡ words
four_words (a ∷ b ∷ c ∷ d ∷ []) h = refl
four_words [] h = absurd (omega (arith, h))
four_words (a ∷ []) h = absurd (omega (arith, h))
four_words (a ∷ b ∷ []) h = absurd (omega (arith, h))
four_words (a ∷ b ∷ c ∷ []) h = absurd (omega (arith, h))
four_words (a ∷ b ∷ c ∷ d ∷ e ∷ more) h = absurd (omega (arith, h))

pub words-kept : (words : List ℕ) → AreWords words → words_of (rising (is_bit_set words)) ≡ words
words-kept words h =
    let at : (q : ℕ) → q < 4 → word_of (rising (is_bit_set words)) q ≡ get_or words q 0 =
    λ q l. word-kept words q l (h.small q 0 (omega (arith, h.four))) in
    (λ i. at 0 (omega arith) i ∷ at 1 (omega arith) i ∷ at 2 (omega arith) i ∷ at 3 (omega arith) i
    ∷ [])
    ∙ four_words words h.four

-- the words that make a set are those of its states
pub same_words : (set : Inside) → AreWords set.words
    → record { words = words_of (rising (is_bit_set set.words)) } ≡ set
same_words set h = λ i. record { words = words-kept set.words h i }
