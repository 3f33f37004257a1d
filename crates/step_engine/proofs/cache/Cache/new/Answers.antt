use Rattle.step_engine.proofs.cache.Cache.new.Goals as goal

pub returns : goal.returns
returns c = record {
  limit = c.lay.ensures.limit;
  new = c.lay.ensures.new;
  right = λ next. c.lay.ensures.right next (λ t none. c.nothing.ensures.right next t none);
}
