use Rattle.std.proofs.lemmas.Result.{IfOk-from_err}
use Rattle.hash_engine.proofs.Names.{refl}
use Rattle.hash_engine.proofs.Shared.Ending.{went_on, End-found, End-same, End-memory}
use Rattle.hash_engine.proofs.Shared.Roots.{CanSeek-root, Grows-root}
use Rattle.hash_engine.proofs.later.search.Goals as goal

pub forward-requires : goal.forward-requires
forward-requires g c =
    CanSeek-root c.requires.asked (g.met.Q.Ask.below c.args.rule.now) c.level-k.ensures c.number.ensures
    (c.turn_lean.ensures (g.Q.Ask.meaning c.args.rule.now) c.args.table.now
    (c.turn_to.ensures.right (g.Q.Ask.meaning c.args.rule.now) c.args.table.now c.requires.right))

pub returns-in_err-number-clause-grows : goal.returns-in_err-number-clause-grows
returns-in_err-number-clause-grows g c = Grows-root c.level-k.ensures c.number.ensures c.requires.asked.level.0 c.forward.ensures.keeps

pub returns-in_err-number-clause-rule : goal.returns-in_err-number-clause-rule
returns-in_err-number-clause-rule g c = c.forward.ensures.keeps.rule

pub returns-in_err-number-clause-right : goal.returns-in_err-number-clause-right
returns-in_err-number-clause-right g c = c.forward.ensures.keeps.right

pub returns-in_err-number-clause-square : goal.returns-in_err-number-clause-square
returns-in_err-number-clause-square g c = IfOk-from_err c.from_residual.result _ c.from_residual.ensures.0

pub returns-in_err-number-clause-end : goal.returns-in_err-number-clause-end
returns-in_err-number-clause-end g c = End-same c.forward.result c.from_residual.result c.in_err-number.field-0.0 c.in_err-number.was c.from_residual.ensures.1 c.forward.ensures.end refl

pub returns-in_err-square-clause-grows : goal.returns-in_err-square-clause-grows
returns-in_err-square-clause-grows g c = Grows-root c.level-k.ensures c.number.ensures c.requires.asked.level.0 c.in_ok-number.ensures.keeps

pub returns-in_err-square-clause-rule : goal.returns-in_err-square-clause-rule
returns-in_err-square-clause-rule g c = c.in_ok-number.ensures.keeps.rule

pub returns-in_err-square-clause-right : goal.returns-in_err-square-clause-right
returns-in_err-square-clause-right g c = c.in_ok-number.ensures.keeps.right

pub returns-in_err-square-clause-square : goal.returns-in_err-square-clause-square
returns-in_err-square-clause-square g c = IfOk-from_err c.from_residual-in_err-square.result _ c.from_residual-in_err-square.ensures.0

pub returns-in_err-square-clause-end : goal.returns-in_err-square-clause-end
returns-in_err-square-clause-end g c = End-memory c.from_residual-in_err-square.result c.from_residual-in_err-square.ensures.1 (went_on c.in_ok-number.ensures.end)

pub returns-clause-grows : goal.returns-clause-grows
returns-clause-grows g c = Grows-root c.level-k.ensures c.number.ensures c.requires.asked.level.0 c.in_ok-number.ensures.keeps

pub returns-clause-rule : goal.returns-clause-rule
returns-clause-rule g c = c.in_ok-number.ensures.keeps.rule

pub returns-clause-right : goal.returns-clause-right
returns-clause-right g c = c.in_ok-number.ensures.keeps.right

pub returns-clause-end : goal.returns-clause-end
returns-clause-end g c = End-found _ (went_on c.in_ok-number.ensures.end)
