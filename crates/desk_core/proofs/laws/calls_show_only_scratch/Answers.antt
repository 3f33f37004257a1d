use Rattle.desk_core.proofs.Run.{calls_show_scratch}
use Rattle.desk_core.proofs.laws.calls_show_only_scratch.Goals as goal

pub returns : goal.returns
returns c = calls_show_scratch
