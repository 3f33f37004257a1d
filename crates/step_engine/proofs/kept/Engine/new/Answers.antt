use Rattle.step_engine.proofs.kept.Engine.new.Goals as goal

pub invariant_of-result : goal.invariant_of-result
invariant_of-result g c = c.in_ok-cache.ensures.right (g.R.Next.meaning c.args.rule.now)
