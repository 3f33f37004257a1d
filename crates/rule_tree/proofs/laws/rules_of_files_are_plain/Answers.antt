use Rattle.rule_tree.proofs.SaidRules.{rule_of-plain}
use Rattle.rule_tree.proofs.laws.rules_of_files_are_plain.Goals as goal

pub returns : goal.returns
returns c = rule_of-plain
