use Rattle.std.proofs.Common.{List, ℕ, ap, subst, ◌∙◌}
use Rattle.bit_blocks.specs.Numbers.{eight_of}
use Rattle.bit_blocks.specs.Grids.{IsStepped}
use Rattle.bit_blocks.proofs.Showing.{four_grids}
use Rattle.bit_blocks.proofs.generations.four_later.Goals as goal

pub returns-clause-later : goal.returns-clause-later
returns-clause-later g c =
    let one = c.in_ok-first.ensures.keeps.rule.meaning in
    let two = c.in_ok-second.ensures.keeps.rule.meaning ∙ one in
    let three = c.in_ok-third.ensures.keeps.rule.meaning ∙ two in
    let by = λ (count : ℕ) (grid new : List ℕ) (next : List ℕ → ℕ). IsStepped next count grid new in
    ap eight_of c.eight.ensures
    ∙ four_grids (g.Q.Ask.meaning c.args.rule.now) (g.met.Q.Ask.quiet c.args.rule.now) c.args.blocks.now
    c.of.result.places c.in_ok-first.first.places c.in_ok-second.second.places c.in_ok-third.third.places c.in_ok-fourth.fourth.places
    c.of.result.below c.in_ok-first.first.below c.in_ok-second.second.below c.in_ok-third.third.below c.in_ok-fourth.fourth.below
    c.of.ensures c.in_ok-first.ensures.later
    (subst (by 6 c.in_ok-first.first.places c.in_ok-second.second.places) one c.in_ok-second.ensures.later)
    (subst (by 5 c.in_ok-second.second.places c.in_ok-third.third.places) two c.in_ok-third.ensures.later)
    (subst (by 4 c.in_ok-third.third.places c.in_ok-fourth.fourth.places) three c.in_ok-fourth.ensures.later)
