use Rattle.std.proofs.Common.{◌≤◌, subst, sym, arith}
use Rattle.hash_life_laws.specs.Result.{later}
use Rattle.bit_blocks.specs.Numbers.{block_of}
use Rattle.bit_blocks.specs.Answers.{IsAnswer}
use Rattle.bit_blocks.proofs.Known.{more_states, none_weaker, read}
use Rattle.bit_blocks.proofs.answers.Answers.seek.Goals as goal

pub returns-then-kept-clause-none : goal.returns-then-kept-clause-none
returns-then-kept-clause-none g c =
    let two : 2 ≤ g.Q.Ask.state_count c.args.rule.now = omega (arith, c.states-count.ensures.count, c.states-count.ensures.at_least) in
    none_weaker c.as_number.result _ _ (λ high. more_states _ _ (g.met.Q.Ask.below c.args.rule.now) two c.args.block c.ask.result c.ask.ensures.answer high c.ask.ensures.known) c.as_number.ensures.none

pub returns-else-kept-clause-none : goal.returns-else-kept-clause-none
returns-else-kept-clause-none g c =
    let two : 2 ≤ g.Q.Ask.state_count c.args.rule.now = omega (arith, c.states-count.ensures.count, c.states-count.ensures.at_least) in
    let kept = read c.args.self.now _ c.args.block _ _ c.self.view_is c.from.ensures c.self.invariant (omega arith) c.index-kept.ensures in
    let is = subst (λ answer. IsAnswer answer (later (g.Q.Ask.meaning c.args.rule.now) (block_of c.args.block))) (sym kept) (c.requires.right.each c.args.block) in
    none_weaker c.as_number-else-kept.result _ _ (λ high. more_states _ _ (g.met.Q.Ask.below c.args.rule.now) two c.args.block c.index-kept.result.now is high c.if-kept.false) c.as_number-else-kept.ensures.none
