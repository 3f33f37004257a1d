use Rattle.step_engine.proofs.kept.Engine.turn_small.Goals as goal

pub invariant_of-self-2 : goal.invariant_of-self-2
invariant_of-self-2 g c = c.in-Ok.ensures.right _
