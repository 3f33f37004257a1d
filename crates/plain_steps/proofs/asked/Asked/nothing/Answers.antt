use Rattle.std.proofs.Common.{true}
use Rattle.plain_steps.proofs.Asks.{HasAsked-none}
use Rattle.plain_steps.proofs.asked.Asked.nothing.Goals as goal

pub returns-clause-none : goal.returns-clause-none
returns-clause-none c = λ next w. HasAsked-none next w (record { cells = c.new.result; patch = c.args.patch; is_still = true }) c.requires c.new.ensures.items
