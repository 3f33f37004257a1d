use Rattle.step_engine.proofs.cache.Cache.clear.Goals as goal

pub returns-clause-right : goal.returns-clause-right
returns-clause-right c = λ next right. c.lay.ensures.right next (λ t none. c.clear-2.ensures.right next c.args.self.now.table t right.right none)
