use Rattle.std.proofs.lemmas.Result.{IfOk-weaker}
use Rattle.step_engine.proofs.padding.start.Goals as goal

pub returns-in_default-clause-level : goal.returns-in_default-clause-level
returns-in_default-clause-level c = IfOk-weaker c.load.result _ _ (λ square is. c.requires.level _ is.level) c.load.ensures.square
