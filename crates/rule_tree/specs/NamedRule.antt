-- What a rule is.
use Rattle.std.specs.Prelude.{ℕ, List}
use Rattle.rule_tree.specs.declared.rule.Kind.{Kind}

-- a rule: its name, and the table or the tree that says what it does
pub record NamedRule : Type 0 where
  pub name : List ℕ
  pub kind : Kind
