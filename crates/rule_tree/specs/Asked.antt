-- The tree that is asked in place of a table.
use Rattle.std.specs.Prelude.{◌≡◌, ◌<◌, length, Option, None, Some, Ok}
use Rattle.rule_file.specs.RuleFile.{Section}
use Rattle.table_symmetry.specs.Table.{Table}
use Rattle.tree_translation.specs.Translation.{Translates, node_limit}
use Rattle.decision_tree.specs.Tree.{Tree}
use Rattle.decision_tree.specs.TreeLines.{tree_of}

-- no tree that a file may say does what this table does with as few nodes as a translated tree may
-- have
abbrev pub IsTooLarge : Table → Type 0
IsTooLarge t =
    (section : Section) (tree : Tree) → tree_of section ≡ Ok tree → Translates t tree
    → node_limit < length tree.nodes

-- the tree that is asked in place of a table: its translation, unless that is too large
abbrev pub IsTreeFor : Table → Option Tree → Type 0
IsTreeFor t None = IsTooLarge t
IsTreeFor t (Some tree) = Translates t tree
