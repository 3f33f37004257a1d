use Rattle.std.proofs.Common.{subst, sym, ap, ◌∙◌, arith}
use Rattle.hash_life_laws.specs.Result.{later}
use Rattle.hash_life_laws.specs.Puts.{IsBelow}
use Rattle.bit_blocks.specs.Answers.{IsAnswer}
use Rattle.bit_blocks.proofs.Bits.{block_below, of_quadrants}
use Rattle.bit_blocks.proofs.Known.{keeps_one}
use Rattle.bit_blocks.proofs.answers.Answers.ask.Goals as goal

pub ask_four-states-requires : goal.ask_four-states-requires
ask_four-states-requires g c =
    subst (IsBelow (g.Q.Ask.state_count c.args.rule.now)) (of_quadrants _ _ _ _ _ c.cells-nw.ensures c.cells-ne.ensures c.cells-sw.ensures c.cells-se.ensures) (block_below _ c.args.block c.requires.two)

pub returns-clause-keeps : goal.returns-clause-keeps
returns-clause-keeps g c =
    let block = of_quadrants _ _ _ _ _ c.cells-nw.ensures c.cells-ne.ensures c.cells-sw.ensures c.cells-se.ensures in
    let is = subst (IsAnswer c.number_of-answer.result) (c.ask_four-states.ensures.next ∙ ap (later (g.Q.Ask.meaning c.args.rule.now)) (sym block)) c.number_of-answer.ensures.answer in
    keeps_one g.Q.Ask.meaning g.Q.Ask.state_count g.Q.Ask.asks _ _ _ _ c.args.block _ _ c.self.view_is c.from.ensures c.self.invariant
    (omega arith) c.requires.right c.requires.unknown is c.number_of-answer.ensures.known c.ask_four-states.ensures.rule c.ask_four-states.ensures.asks

pub returns-clause-answer : goal.returns-clause-answer
returns-clause-answer g c =
    let block = of_quadrants _ _ _ _ _ c.cells-nw.ensures c.cells-ne.ensures c.cells-sw.ensures c.cells-se.ensures in
    subst (IsAnswer c.number_of-answer.result) (c.ask_four-states.ensures.next ∙ ap (later (g.Q.Ask.meaning c.args.rule.now)) (sym block)) c.number_of-answer.ensures.answer
