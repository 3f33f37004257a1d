use Rattle.worlds.specs.Lay.{cell-lay}
use Rattle.worlds.proofs.laws.state_after_lay.Goals as goal

pub returns : goal.returns
returns c = cell-lay
