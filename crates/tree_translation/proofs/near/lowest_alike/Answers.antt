use Rattle.tree_translation.proofs.Names.{ap, arith, bit_and, bit_at, bit_at-lt, bit_at-trailing_ones, bit_at-trailing_zeros, bit_at-zero, bit_at_ones, refl, shr_and_one, suc, sym, zero, ℕ, ◌/◌, ◌^◌, ◌∙◌, ◌≡◌, ◌≢◌, ◌≤◌}
use Rattle.tree_translation.proofs.near.lowest_alike.Goals as goal
use mir.Syntax.{w64}

-- the lowest bit is what `& 1` gives
lowest : (word : ℕ) → bit_at word 0 ≡ bit_and word 1
lowest word =
    let whole : word / 2 ^ 0 ≡ word = omega arith in
    sym (ap (λ n. bit_and n 1) (sym whole) ∙ shr_and_one word 0)

-- a bit below a place, which is not the place, is past the lowest
not-first : (word place : ℕ) → bit_at word 0 ≢ bit_at word place → 1 ≤ place
not-first word place other = elim place as (λ p. bit_at word 0 ≢ bit_at word p → 1 ≤ p) [ zero ↦ λ h. absurd (h refl) | suc p ↦ λ h. omega arith ] other

pub returns-then-word-eq0-clause-alike : goal.returns-then-word-eq0-clause-alike
returns-then-word-eq0-clause-alike c = λ i h. rw c.if-word-eq0.true (bit_at-zero i ∙ sym (bit_at-zero 0))

pub returns-then-word-eq18446744073709551615-clause-alike : goal.returns-then-word-eq18446744073709551615-clause-alike
returns-then-word-eq18446744073709551615-clause-alike c = λ i h.
    rw c.if-word-eq18446744073709551615.true (bit_at_ones 64 i h ∙ sym (bit_at_ones 64 0 (omega arith)))

pub returns-then-word-eq1-clause-some : goal.returns-then-word-eq1-clause-some
returns-then-word-eq1-clause-some c =
    let ones = bit_at-trailing_ones w64 c.args.word (omega arith) in
    rw c.trailing_ones.ensures (not-first c.args.word _ (λ e. omega (arith, e, ones.1, lowest c.args.word)))

pub returns-then-word-eq1-clause-alike : goal.returns-then-word-eq1-clause-alike
returns-then-word-eq1-clause-alike c = λ i h.
    let ones = bit_at-trailing_ones w64 c.args.word (omega arith) in
    ones.2 i (rw c.trailing_ones.ensures at h) ∙ sym (lowest c.args.word ∙ c.if-word-eq1.true)

pub returns-clause-some : goal.returns-clause-some
returns-clause-some c =
    let zeros = bit_at-trailing_zeros w64 c.args.word (omega arith) (omega arith) in
    not-first c.args.word _ (λ e. omega (arith, e, zeros.1, lowest c.args.word, bit_at-lt c.args.word 0))

pub returns-clause-alike : goal.returns-clause-alike
returns-clause-alike c = λ i h.
    let zeros = bit_at-trailing_zeros w64 c.args.word (omega arith) (omega arith) in
    zeros.2 i h ∙ sym (lowest c.args.word ∙ omega (arith, bit_at-lt c.args.word 0, lowest c.args.word))
