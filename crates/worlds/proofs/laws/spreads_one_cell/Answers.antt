use Rattle.worlds.proofs.Shared.Local.{cell-step-none}
use Rattle.worlds.proofs.laws.spreads_one_cell.Goals as goal

pub returns : goal.returns
returns c = cell-step-none
