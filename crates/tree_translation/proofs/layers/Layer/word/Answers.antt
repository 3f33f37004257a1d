use Rattle.tree_translation.proofs.Names.{allows, ap, bit_at_ones, eq-eqb, lets, sym, ℕ, ◌*◌, ◌+◌, ◌∙◌, ◌≡◌}
use Rattle.table_lines.proofs.Shared.WordBits.{bit-word}
use Rattle.tree_translation.proofs.TailsNear.{lets-read}
use Rattle.tree_translation.proofs.layers.Layer.word.Goals as goal
use Rattle.tree_translation.proofs.layers.Layer.word.Goals.{After-index}

-- what the tail lets the input be, by the set that was read
read : (c : After-index) (state : ℕ) → allows c.index.result.now state ≡ lets c.args.self.now c.args.number state
read c = lets-read c.args.self.now c.args.number c.index-tail.result.now c.index.result.now c.requires.sets c.requires.number c.index-tail.ensures c.index.ensures

pub returns-in-Some : goal.returns-in-Some
returns-in-Some c = λ bit h.
    let known = read (goal.at.returns-in-Some c).After-index (64 * c.args.block + bit) in
    rw c.word.ensures (bit-word c.in-Some.set c.args.block bit h ∙ ap (λ s. allows s (64 * c.args.block + bit)) (sym c.in-Some.is) ∙ known)

pub returns-in-None : goal.returns-in-None
returns-in-None c = λ bit h.
    let known = read (goal.at.returns-in-None c).After-index (64 * c.args.block + bit) in
    eq-eqb _ 1 (bit_at_ones 64 bit h) ∙ ap (λ s. allows s (64 * c.args.block + bit)) (sym c.in-None.is) ∙ known
