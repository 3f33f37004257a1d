use Rattle.tree_translation.proofs.Names.{add-zero, ap, arith, bit_at, sym, ℕ, ◌%◌, ◌+◌, ◌/◌, ◌^◌, ◌∙◌, ◌≡◌}
use Rattle.std.proofs.lemmas.Nat.{shr-shr}
use Rattle.tree_translation.proofs.near.bits_alike.Goals as goal

-- a bit of what a shift leaves
shifted : (word bit i : ℕ) → bit_at (word / 2 ^ bit) i ≡ bit_at word (bit + i)
shifted word bit i = ap (λ n. n % 2) (shr-shr word bit i)

pub returns-clause-alike : goal.returns-clause-alike
returns-clause-alike c = λ i h.
    sym (shifted c.args.word c.args.bit i) ∙ c.lowest_alike.ensures.alike i (omega arith) ∙ shifted c.args.word c.args.bit 0 ∙ ap (bit_at c.args.word) (add-zero c.args.bit)
