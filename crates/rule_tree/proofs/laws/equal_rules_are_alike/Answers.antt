use Rattle.rule_tree.specs.RuleLaws.{equal-alike}
use Rattle.rule_tree.proofs.laws.equal_rules_are_alike.Goals as goal

pub returns : goal.returns
returns c = equal-alike
