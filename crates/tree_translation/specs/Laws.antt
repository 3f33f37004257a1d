-- A law of trees and tables.
use Rattle.std.specs.Prelude.{◌≡◌, ◌≤◌, ℕ, length, Ok}
use Rattle.rule_file.specs.RuleFile.{Section}
use Rattle.table_symmetry.specs.Table.{Table}
use Rattle.tree_translation.specs.NodesNeeded.{NeedsNodes}
use Rattle.tree_translation.specs.Translation.{Translates}
use Rattle.decision_tree.specs.Tree.{Tree}
use Rattle.decision_tree.specs.TreeLines.{tree_of}

-- a tree of a file that does what a table does has as many nodes as the table needs
abbrev pub TreesHaveTheNodesNeeded : Type 0
TreesHaveTheNodesNeeded =
    (table : Table) (count : ℕ) (section : Section) (tree : Tree) → NeedsNodes table count
    → tree_of section ≡ Ok tree → Translates table tree → count ≤ length tree.nodes
