use Rattle.hash_engine.proofs.Names.{IfOk-weaker, rules}
use Rattle.hash_engine.proofs.Standing.{overlap}
use Rattle.hash_engine.proofs.parts.fours.Goals as goal

pub returns-clause-squares : goal.returns-clause-squares
returns-clause-squares c = IfOk-weaker c.join_four.result _ _ (λ ns give k ss are. give k _ (overlap are (search rules))) c.join_four.ensures.squares

pub returns-clause-adds : goal.returns-clause-adds
returns-clause-adds c = λ k ss are. c.join_four.ensures.adds k _ (overlap are (search rules))
