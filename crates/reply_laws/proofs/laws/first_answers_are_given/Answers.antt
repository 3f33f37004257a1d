use Rattle.reply_laws.proofs.Example.{first_given}
use Rattle.reply_laws.proofs.laws.first_answers_are_given.Goals as goal

pub returns : goal.returns
returns c = first_given
