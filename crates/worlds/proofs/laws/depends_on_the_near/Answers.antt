use Rattle.worlds.proofs.Shared.Local.{cell-iterate}
use Rattle.worlds.proofs.laws.depends_on_the_near.Goals as goal

pub returns : goal.returns
returns c = cell-iterate
