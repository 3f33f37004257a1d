use Rattle.rule_tree.proofs.WrittenRules.{trees-rules}
use Rattle.rule_tree.proofs.laws.written_trees_are_rules.Goals as goal

pub returns : goal.returns
returns c = trees-rules
