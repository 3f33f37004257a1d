use Rattle.step_engine.proofs.Names.{IfOk-weaker, arith, refl}
use Rattle.step_engine.proofs.Shared.Spent.{low_enough, AddsStart-loaded, AddsStart-widened, IsRooted-widened}
use Rattle.step_engine.proofs.padding.rooted.Goals as goal

pub start-requires-clause-level : goal.start-requires-clause-level
start-requires-clause-level c = low_enough c.room_level-level.ensures refl

pub with_room-requires-clause-level : goal.with_room-requires-clause-level
with_room-requires-clause-level c = let few = c.room_level-level.ensures.few in (c.in_ok-start.ensures.square.low, c.in_ok-start.ensures.level, omega (arith, few))

pub returns-in_err-start-clause-adds : goal.returns-in_err-start-clause-adds
returns-in_err-start-clause-adds c = AddsStart-loaded c.room_level-level.ensures c.start.ensures.grows

pub returns-clause-root : goal.returns-clause-root
returns-clause-root c = IfOk-weaker c.with_room.result _ _ (λ root is. IsRooted-widened c.room_level-level.ensures refl c.in_ok-start.ensures.square.centred is) c.with_room.ensures.widened

pub returns-clause-adds : goal.returns-clause-adds
returns-clause-adds c = AddsStart-widened c.room_level-level.ensures refl c.in_ok-start.ensures.grows c.in_ok-start.ensures.square.centred c.with_room.ensures.adds
