-- Laws of trees: each statement is proved by a function of the same name.
use Rattle.std.specs.Prelude.{◌≡◌, ℕ, Bool, true, List, ◌∷◌, ◌++◌, is_some, map, Ok}
use Rattle.std.specs.List.{list_all}
use Rattle.rule_file.specs.RuleFile.{NumberedLine, Section, file_of, is_name}
use Rattle.decision_tree.specs.Tree.{Tree, is_quiescent, is_sound}
use Rattle.decision_tree.specs.TreeLines.{Node, descriptor_of, tree_from, tree_of}
use Rattle.decision_tree.specs.declared.descriptors.TreeHead.{TreeHead}
use Rattle.decision_tree.specs.Kept.{IsTreeHead}
use Rattle.decision_tree.specs.WrittenTree.{AreNodesOf, written_file, written_section}

-- a tree that a file says is sound
abbrev pub TreesOfFilesAreSound : Type 0
TreesOfFilesAreSound =
    (section : Section) (tree : Tree) → tree_of section ≡ Ok tree → is_sound tree ≡ true

-- lines that say a tree say it under other numbers too: blank lines and comments between them
-- change nothing
abbrev pub NumbersDoNotMatter : Type 0
NumbersDoNotMatter =
    (section other : Section) (tree : Tree)
    → map (λ line. line.text) section.lines ≡ map (λ line. line.text) other.lines
    → tree_of section ≡ Ok tree → tree_of other ≡ Ok tree

-- whether a line is a descriptor
abbrev pub is_descriptor : NumberedLine → Bool
is_descriptor line = is_some (descriptor_of line.text)

-- two descriptors, one after the other, may stand in the other order, and so all three in any
abbrev pub DescriptorsInAnyOrder : Type 0
DescriptorsInAnyOrder =
    (section : Section) (front : List NumberedLine) (line next : NumberedLine)
    (rest : List NumberedLine) (tree : Tree)
    → list_all is_descriptor front ≡ true → is_descriptor line ≡ true → is_descriptor next ≡ true
    → tree_of (record section { lines = front ++ line ∷ next ∷ rest }) ≡ Ok tree
    → tree_of (record section { lines = front ++ next ∷ line ∷ rest }) ≡ Ok tree

-- the lines that are written for a head and its nodes mean their tree
abbrev pub WrittenMeansTheSame : Type 0
WrittenMeansTheSame =
    (opened : ℕ) (head : TreeHead) (nodes : List Node) → IsTreeHead head → AreNodesOf head nodes
    → is_quiescent (tree_from head nodes) ≡ true
    → tree_of (written_section opened head nodes) ≡ Ok (tree_from head nodes)

-- the text that is written for a name and a tree is the rule file of this name whose section are
-- these lines
abbrev pub WrittenIsItsFile : Type 0
WrittenIsItsFile =
    (name : List ℕ) (head : TreeHead) (nodes : List Node) → is_name name ≡ true → IsTreeHead head
    → AreNodesOf head nodes
    → file_of (written_file name head nodes)
    ≡ Ok (record { name = name; section = written_section 2 head nodes })
