-- Rule files of trees that are written.
use Rattle.decision_tree.proofs.Names.{AllByRecursion, AreNodesOf, EachIsNext, Eight, Four, IsDigit, IsNumberLine, IsPlain, IsPlainLine, IsSolid, IsTreeHead, IsWide, List, Neighbors, Node, TreeHead, WrittenIsItsFile, [], arith, codes}
use Rattle.decision_tree.proofs.Names.{decimal, decimal-bytes, differs, digit-plain, digit-solid, false, file-written, is_solid, length, length-append, list_all, map, neighbors_text, node_line, numbers-bytes, numbers-line, numbers-start}
use Rattle.decision_tree.proofs.Names.{opens_section, refl, solid-line, solid-tested, true, visible-tested, written_lines, ℕ, ◌++◌, ◌<◌, ◌∷◌, ◌≡◌, ◌≤◌}
use Rattle.basics.proofs.Shared.Lists.{all_append, all_so}
use Rattle.text_lines.proofs.Shared.PrintedLines.{line-visible}
use Rattle.rule_file.specs.declared.text.SectionKind.TheVariants.{Tree}
use Rattle.decision_tree.proofs.Shared.WrittenTrees.{node-wide}

-- a word and a number behind it
numbered-plain : (word : List ℕ) (n : ℕ) → 0 < length word → list_all is_solid word ≡ true → IsWide n → IsPlainLine (word ++ decimal n)
numbered-plain word n some solid wide =
    solid-line (word ++ decimal n) (omega (arith, length-append word (decimal n))) (all_append IsSolid word (decimal n) (solid-tested word solid) (all_so IsDigit IsSolid (decimal n) digit-solid (decimal-bytes n wide)))

neighbors-plain : (neighbors : Neighbors) → IsPlainLine (codes "num_neighbors=" ++ neighbors_text neighbors)
neighbors-plain Four = solid-line (codes "num_neighbors=4") (omega arith) (solid-tested (codes "num_neighbors=4") refl)
neighbors-plain Eight = solid-line (codes "num_neighbors=8") (omega arith) (solid-tested (codes "num_neighbors=8") refl)

starts-closed : (line : List ℕ) → IsNumberLine line → (0 < length line) × (opens_section line ≡ false)
starts-closed line starts =
    rw starts.is (omega arith, differs starts.digit 64 (λ e. omega (arith, e, starts.is_digit)))

numbers-plain : (n : ℕ) (ns : List ℕ) → AllByRecursion IsWide (n ∷ ns) → IsPlainLine (node_line (record { depth = n; entries = ns }))
numbers-plain n ns h =
    let starts = starts-closed (node_line (record { depth = n; entries = ns })) (numbers-start n ns h) in
    record { is_line = numbers-line n ns h; plain = numbers-bytes IsPlain refl digit-plain n ns h; some = starts.0; closed = starts.1 }

nodes-lines : (head : TreeHead) (nodes others : List Node) → IsTreeHead head → EachIsNext head nodes others → AllByRecursion (λ node. node.depth ≤ head.node_count) others → AllByRecursion IsPlainLine (map node_line others)
nodes-lines head nodes [] limits h low = tt
nodes-lines head nodes (node ∷ others) limits h low =
    (numbers-plain node.depth node.entries (node-wide head nodes node limits low.0 h.0), nodes-lines head (nodes ++ node ∷ []) others limits h.1 low.1)

lines-plain : (head : TreeHead) (nodes : List Node) → IsTreeHead head → AreNodesOf head nodes → AllByRecursion IsPlainLine (written_lines head nodes)
lines-plain head nodes limits are = (
  numbered-plain (codes "num_states=") head.states (omega arith) refl (omega (arith, limits.at_most)),
  (
    neighbors-plain head.neighbors,
    (numbered-plain (codes "num_nodes=") head.node_count (omega arith) refl (omega (arith, limits.few)), nodes-lines head [] nodes limits are.each are.low),
  ),
)

-- the file of a text that is written
pub written-file : WrittenIsItsFile
written-file name head nodes h limits are =
    file-written name Tree (codes "@TREE") (written_lines head nodes) h (line-visible (codes "@TREE") (omega arith) (visible-tested (codes "@TREE") refl)) refl (lines-plain head nodes limits are)

pub ruleset written_files = (written-file)
