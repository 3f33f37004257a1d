use Rattle.step_engine.proofs.Caches.{IsRightCache-small}
use Rattle.step_engine.specs.declared.cache.Cache.{Cache}
use Rattle.step_engine.proofs.cache.Cache.lay.Goals as goal

pub returns-in-Ok-clause-right : goal.returns-in-Ok-clause-right
returns-in-Ok-clause-right c =
    let was = c.args.self.now in
    let laid = c.lay_small.new.table in
    let small = c.in-Ok.ensures.small.begins in
    let cache : Cache = record was { table = laid; memo = c.turn_small.new.self } in
    λ next memo. IsRightCache-small cache was.table c.requires.room c.requires.empty c.lay_small.ensures.rest small
    c.requires.none (λ none. c.turn_small.ensures next laid (memo laid none) small)
