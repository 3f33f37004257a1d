use Rattle.rule_tree.proofs.WrittenRules.{tables-rules}
use Rattle.rule_tree.proofs.laws.written_tables_are_rules.Goals as goal

pub returns : goal.returns
returns c = tables-rules
