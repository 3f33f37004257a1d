-- The lines that write a tree.
use Rattle.std.specs.Prelude.{◌≡◌, ℕ, ◌+◌, ◌≤◌, true, List, [], ◌∷◌, ◌++◌, length, map, codes, decimal}
use Rattle.std.specs.List.{AllByRecursion}
use Rattle.text_lines.specs.LineEnds.{text_of_lines}
use Rattle.text_lines.specs.Numbers.{numbers_line}
use Rattle.rule_file.specs.declared.text.SectionKind.TheVariants as section_kind
use Rattle.rule_file.specs.RuleFile.{Section, numbered_from}
use Rattle.decision_tree.specs.declared.tree.Neighbors.{Neighbors}
use Rattle.decision_tree.specs.declared.tree.Neighbors.TheVariants.{Four, Eight}
use Rattle.decision_tree.specs.declared.descriptors.TreeHead.{TreeHead}
use Rattle.decision_tree.specs.TreeLines.{Node, is_next}

-- how many neighbours a cell has, in digits
abbrev pub neighbors_text : Neighbors → List ℕ
neighbors_text Four = codes "4"
neighbors_text Eight = codes "8"

-- the line of a node: its depth, and its entries
abbrev pub node_line : Node → List ℕ
node_line node = numbers_line (node.depth ∷ node.entries)

-- the lines of a tree: three descriptors, and one for each node
abbrev pub written_lines : TreeHead → List Node → List (List ℕ)
written_lines head nodes =
    (codes "num_states=" ++ decimal head.states)
    ∷ (codes "num_neighbors=" ++ neighbors_text head.neighbors)
    ∷ (codes "num_nodes=" ++ decimal head.node_count)
    ∷ map node_line nodes

-- the section that they are, behind the line of this number that opens it
abbrev pub written_section : ℕ → TreeHead → List Node → Section
written_section opened head nodes =
    record {
      kind = section_kind.Tree;
      opened = opened;
      lines = numbered_from (opened + 1) (written_lines head nodes);
    }

-- each of some nodes may stand behind these and those before it
abbrev pub EachIsNext : TreeHead → List Node → List Node → Type 0
EachIsNext head nodes [] = Unit {0}
EachIsNext head nodes (node ∷ others) =
    (is_next head (map (λ n. n.depth) nodes) node ≡ true)
    × EachIsNext head (nodes ++ node ∷ []) others

-- the nodes of a tree with this head in order, of which none is deeper than there are nodes
pub record AreNodesOf (head : TreeHead) (nodes : List Node) : Type 0 where
  pub count : length nodes ≡ head.node_count
  pub each : EachIsNext head [] nodes
  pub low : AllByRecursion (λ node. node.depth ≤ head.node_count) nodes

-- the text of a rule file of this name, which has the tree's section alone
abbrev pub written_file : List ℕ → TreeHead → List Node → List ℕ
written_file name head nodes =
    text_of_lines ((codes "@RULE " ++ name) ∷ codes "@TREE" ∷ written_lines head nodes)
