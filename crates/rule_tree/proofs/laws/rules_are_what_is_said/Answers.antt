use Rattle.rule_tree.proofs.SaidTwice.{rules-said}
use Rattle.rule_tree.proofs.laws.rules_are_what_is_said.Goals as goal

pub returns : goal.returns
returns c = rules-said
