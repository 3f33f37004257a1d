use Rattle.worlds.specs.Moved.{cell-moved}
use Rattle.worlds.proofs.laws.state_after_moving.Goals as goal

pub returns : goal.returns
returns c = cell-moved
