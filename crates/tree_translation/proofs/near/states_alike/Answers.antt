use Rattle.tree_translation.proofs.Names.{All-more, TreatsAlike, arith, bit_at, get_or, lets, take_all, ℕ, ◌%◌, ◌*◌, ◌+◌, ◌/◌, ◌<◌, ◌==◌, ◌≡◌}
use Rattle.tree_translation.proofs.TailsNear.{alike-bits}
use Rattle.tree_translation.proofs.near.states_alike.Goals as goal

pub loop-number-preserved : goal.loop-number-preserved
loop-number-preserved c =
    let layer = c.args.layer.now in
    let list = c.args.list.now in
    let state = c.args.state in
    let index = c.loop-number.number-index in
    let count = c.min-count.result in
    let number = get_or list index 0 in
    let word = c.word-word.result in
    let bits : (bit : ℕ) → bit < 64 → (bit_at word bit == 1) ≡ lets layer number (64 * (state / 64) + bit) = rw c.from.ensures at c.word-word.ensures in
    let alike : (i : ℕ) → i < c.bits_alike.result → bit_at word (state % 64 + i) ≡ bit_at word (state % 64) = rw c.from-in-loop-number.ensures at c.bits_alike.ensures.alike in
    let here : TreatsAlike layer state count number = alike-bits layer number state count word bits (omega arith) (λ i h. alike i (omega arith)) in
    record {
      some = omega arith;
      within = omega arith;
      alike = All-more (TreatsAlike layer state count) list index 0 c.loop-number-test.true
          (λ k d l s low high. c.loop-number.invariant.alike k d l s low (omega arith)) here;
    }

pub returns-clause-alike : goal.returns-clause-alike
returns-clause-alike c =
    rw (take_all c.loop-number.number-index c.args.list.now (omega arith)) at c.loop-number.invariant.alike
