-- Laws of rules: each statement is proved by a function of the same name.
use Rattle.std.specs.Prelude.{◌≡◌, ℕ, true, List, Ok}
use Rattle.rule_file.specs.Laws.{saying_of}
use Rattle.rule_file.specs.RuleFile.{is_name}
use Rattle.table_lines.specs.WrittenTable as table_text
use Rattle.table_symmetry.specs.Table as table_values
use Rattle.table_symmetry.specs.TableLines.{within_limits}
use Rattle.decision_tree.specs.declared.descriptors.TreeHead.{TreeHead}
use Rattle.decision_tree.specs.Kept.{IsTreeHead}
use Rattle.decision_tree.specs.Tree.{is_quiescent}
use Rattle.decision_tree.specs.TreeLines.{Node, tree_from}
use Rattle.decision_tree.specs.WrittenTree as tree_text
use Rattle.rule_tree.specs.declared.rule.Kind.TheVariants.{Table, Tree}
use Rattle.rule_tree.specs.NamedRule.{NamedRule}
use Rattle.rule_tree.specs.Rule.{AreAlike, AreEqual, next_of, plain_next, rule_of}

-- the next state under the rule that a file means is that of its table or tree
abbrev pub RulesOfFilesArePlain : Type 0
RulesOfFilesArePlain =
    (bytes : List ℕ) (rule : NamedRule) → rule_of bytes ≡ Ok rule
    → next_of rule ≡ plain_next rule.kind

-- equal rules have the same states, and give the same next state of every cell
abbrev pub EqualRulesAreAlike : Type 0
EqualRulesAreAlike =
    (rule other : NamedRule) → AreEqual rule other → AreAlike rule other

-- a text that says what another says, whichever of its lines say it, means the same rule: where
-- blank lines and comments stand doesn't matter
abbrev pub RulesAreWhatIsSaid : Type 0
RulesAreWhatIsSaid =
    (text other : List ℕ) (rule : NamedRule) → saying_of text ≡ saying_of other
    → rule_of text ≡ Ok rule → rule_of other ≡ Ok rule

-- the text that is written for a name and a table within its limits means the rule of this name and
-- this table
abbrev pub WrittenTablesAreRules : Type 0
WrittenTablesAreRules =
    (name : List ℕ) (sets : List (List ℕ)) (table : table_values.Table) → is_name name ≡ true
    → table_text.IsTableOf sets table → within_limits table ≡ Ok table
    → rule_of (table_text.written_file name sets table)
    ≡ Ok (record { name = name; kind = Table table })

-- so does the text that is written for a name and a tree
abbrev pub WrittenTreesAreRules : Type 0
WrittenTreesAreRules =
    (name : List ℕ) (head : TreeHead) (nodes : List Node) → is_name name ≡ true → IsTreeHead head
    → tree_text.AreNodesOf head nodes → is_quiescent (tree_from head nodes) ≡ true
    → rule_of (tree_text.written_file name head nodes)
    ≡ Ok (record { name = name; kind = Tree (tree_from head nodes) })
