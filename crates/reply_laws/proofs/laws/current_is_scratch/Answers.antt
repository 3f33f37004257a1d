use Rattle.reply_laws.proofs.Current.{shows_scratch}
use Rattle.reply_laws.proofs.laws.current_is_scratch.Goals as goal

pub returns : goal.returns
returns c = shows_scratch c.calls_show_only_scratch.ensures c.calls_are_of_law.ensures
