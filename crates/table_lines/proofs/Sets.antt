-- What a change of its words does to a set.
use Rattle.table_lines.proofs.Names.{AreWords, Bool, List, [], ap, arith, bit_at, bit_at-lt, bit_at-zero, bit_at_or, bit_at_set_other, bit_at_set_same, bytes_decides, bytes_eq-Decides, filter, get_or, get_or-set_at, get_or-set_other, has}
use Rattle.table_lines.proofs.Names.{has-rising, is_bit_set, length, length-set, nat_eq, nat_tests, or_lt, pointwise, range_with_len, refl, rising-agree, rising_none, same_from_decides, same_set, set, suc, sym, words-kept, words_of, zero}
use Rattle.table_lines.proofs.Names.{ℕ, ◌%◌, ◌*◌, ◌/◌, ◌<◌, ◌==◌, ◌^◌, ◌||◌, ◌∙◌, ◌∷◌, ◌≡◌}
use Rattle.std.specs.Int.RustNames.{bit_or}
use mir.Syntax.{w64}
use Rattle.table_lines.specs.States.{rising}

-- what holds at four places holds at each below 4
at_four : (P : ℕ → Type 0) → P 0 → P 1 → P 2 → P 3 → (q : ℕ) → q < 4 → P q
at_four P a b c d zero l = a
at_four P a b c d (suc zero) l = b
at_four P a b c d (suc (suc zero)) l = c
at_four P a b c d (suc (suc (suc zero))) l = d
at_four P a b c d (suc (suc (suc (suc q)))) l = absurd (omega (arith, l))

-- the set that has no words but 0
pub nothing : rising (is_bit_set (0 ∷ 0 ∷ 0 ∷ 0 ∷ [])) ≡ []
nothing = rising_none _ (λ s h.
    let none = bit_at-zero (s % 64) in
    ap (λ b. b == 1) (at_four (λ q. bit_at (get_or (0 ∷ 0 ∷ 0 ∷ 0 ∷ []) q 0) (s % 64) ≡ 0) none none none none (s / 64) (omega arith)))

-- one more state
bit-set : (n t i : ℕ) → t < 64 → (bit_at (bit_or n (1 * 2 ^ t % 2 ^ 64)) i == 1) ≡ ((i == t) || (bit_at n i == 1))
bit-set n t i h = grind (arith, nat_tests, bit_at_set_same w64 n t h, bit_at_set_other w64 n t h)

pub inserted : (words : List ℕ) (t word : ℕ) → length words ≡ 4 → t < 256 → word ≡ bit_or (get_or words (t / 64) 0) (1 * 2 ^ (t % 64) % 2 ^ 64)
    → rising (is_bit_set (set words (t / 64) word)) ≡ rising (λ s. (s == t) || has (rising (is_bit_set words)) s)
inserted words t word four h is = rising-agree _ _ (λ s l.
    let bit = bit-set (get_or words (t / 64) 0) (t % 64) (s % 64) (omega arith) in
    grind (arith, nat_tests, get_or-set_at {X = ℕ}, get_or-set_other {A = ℕ}, bit, has-rising (is_bit_set words) s l))

pub AreWords-set : (words : List ℕ) (q word : ℕ) → AreWords words → word < 2 ^ 64 → AreWords (set words q word)
AreWords-set words q word h low = record {
  four = length-set words q word ∙ h.four;
  small = λ k d l. grind (arith, length-set {A = ℕ}, get_or-set_at {X = ℕ}, get_or-set_other {A = ℕ}, h.small k d);
}

-- the states of two sets
bit-or : (a b i : ℕ) → (bit_at (bit_or a b) i == 1) ≡ ((bit_at a i == 1) || (bit_at b i == 1))
bit-or a b i = grind (arith, nat_tests, bit_at_or a b i, bit_at-lt a i, bit_at-lt b i)

-- the words of two sets, one by one
abbrev pub united_words : List ℕ → List ℕ → List ℕ
united_words v w = bit_or (get_or v 0 0) (get_or w 0 0) ∷ bit_or (get_or v 1 0) (get_or w 1 0) ∷ bit_or (get_or v 2 0) (get_or w 2 0) ∷ bit_or (get_or v 3 0) (get_or w 3 0) ∷ []

pub united : (v w : List ℕ) → rising (is_bit_set (united_words v w)) ≡ rising (λ s. has (rising (is_bit_set v)) s || has (rising (is_bit_set w)) s)
united v w = rising-agree _ _ (λ s l.
    let word = at_four (λ q. get_or (united_words v w) q 0 ≡ bit_or (get_or v q 0) (get_or w q 0)) refl refl refl refl (s / 64) (omega arith) in
    rw word (bit-or _ _ (s % 64)) ∙ (λ i. sym (has-rising (is_bit_set v) s l) i || sym (has-rising (is_bit_set w) s l) i))

pub AreWords-united : (v w : List ℕ) → AreWords v → AreWords w → AreWords (united_words v w)
AreWords-united v w h k =
    let at : (q : ℕ) → q < 4 → bit_or (get_or v q 0) (get_or w q 0) < 2 ^ 64 = λ q l. or_lt 64 _ _ (h.small q 0 (omega (arith, h.four))) (k.small q 0 (omega (arith, k.four))) in
    record {
      four = refl;
      small = λ i d. at_four (λ q. get_or (united_words v w) q d < 2 ^ 64) (at 0 (omega arith)) (at 1 (omega arith)) (at 2 (omega arith)) (at 3 (omega arith)) i;
    }

-- the states that a set has are the set
pub filter_has : (p : ℕ → Bool) (states : List ℕ) → rising p ≡ states → filter (has states) (range_with_len 0 256) ≡ states
unfolding rising
filter_has p states e = rw (← e) (rising-agree (has (rising p)) p (has-rising p))

-- sets have the same states exactly where their words are the same
pub same_set-words : (v w : List ℕ) → AreWords v → AreWords w → pointwise nat_eq v w ≡ same_set (rising (is_bit_set v)) (rising (is_bit_set w))
same_set-words v w h k =
    same_from_decides _ _ (
      (λ same. ap (λ words. rising (is_bit_set words)) ((bytes_decides v w).0 same)),
      (λ same. (bytes_decides v w).1 (sym (words-kept v h) ∙ ap words_of same ∙ words-kept w k)),
    ) (bytes_eq-Decides _ _)
