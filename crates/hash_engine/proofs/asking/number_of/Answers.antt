use Rattle.std.proofs.Common.{arith, ◌∙◌}
use Rattle.hash_engine.proofs.Neighbourhoods.{by_nine, states_of-bits}
use Rattle.hash_engine.proofs.asking.number_of.Goals as goal

pub returns-clause-states : goal.returns-clause-states
returns-clause-states c =
    states_of-bits _ _ _ _ _ _ _ _ _ _ c.if-a-gt1.false c.if-b-gt1.false c.if-c-gt1.false c.if-d-gt1.false c.if-e-gt1.false c.if-f-gt1.false c.if-g-gt1.false c.if-h-gt1.false c.if-i-gt1.false (omega arith)
    ∙ by_nine c.args.around.now.0 (omega arith)
