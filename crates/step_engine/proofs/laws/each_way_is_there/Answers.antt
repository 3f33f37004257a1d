use Rattle.step_engine.proofs.Ways.{each_way_is_there}
use Rattle.step_engine.proofs.laws.each_way_is_there.Goals as goal

pub returns : goal.returns
returns c = each_way_is_there
