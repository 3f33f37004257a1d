-- What the lines of a tree mean: the tree, or the first fault that they have.
use Rattle.std.specs.Prelude.{ℕ, ◌+◌, ◌==◌, ◌&&◌, ◌||◌, Bool, nat_lt, if◌then◌else◌, List, [], ◌∷◌, ◌++◌, length, map, filter, codes, slice_index, Option, Some, None, is_none, Result, Ok, Err, option_and_then}
use Rattle.std.specs.List.{list_all, slice_split}
use Rattle.std.specs.Option.{option_map, option_map_or, ok_or}
use Rattle.std.specs.Str.{bytes_eq}
use Rattle.text_lines.specs.Blanks.{is_blank}
use Rattle.text_lines.specs.NamedValues.{named_value}
use Rattle.text_lines.specs.Numbers.{is_word, number_of}
use Rattle.rule_file.specs.declared.fault.RuleFault.{RuleFault}
use Rattle.rule_file.specs.declared.fault.RuleFault.TheVariants.{BadTree, NotQuiescent}
use Rattle.basics.specs.Results.{◌>>=◌}
use Rattle.rule_file.specs.RuleFile.{NumberedLine, Section}
use Rattle.rule_file.specs.States.{number_within, states_in}
use Rattle.decision_tree.specs.declared.tree.Neighbors.{Neighbors}
use Rattle.decision_tree.specs.declared.tree.Neighbors.TheVariants.{Four, Eight}
use Rattle.decision_tree.specs.declared.descriptors.Descriptor.{Descriptor}
use Rattle.decision_tree.specs.declared.descriptors.Descriptor.TheVariants as descriptor
use Rattle.decision_tree.specs.declared.descriptors.TreeHead.{TreeHead}
use Rattle.decision_tree.specs.Tree.{Entries, Tree, is_quiescent}

-- the descriptor of this word
abbrev pub descriptor_named : List ℕ → Option Descriptor
descriptor_named word =
    if bytes_eq word (codes "num_states") then Some descriptor.States
    else
    (if bytes_eq word (codes "num_neighbors") then Some descriptor.Neighbors
    else (if bytes_eq word (codes "num_nodes") then Some descriptor.Nodes else None))

-- a descriptor and its value, which an equals sign parts, if the line is one
abbrev pub descriptor_of : List ℕ → Option (Descriptor × List ℕ)
descriptor_of line =
    option_and_then (λ named. option_map (λ d. (d, named.1)) (descriptor_named named.0))
    (named_value 61 line)

-- four neighbours or eight
abbrev pub neighbors_in : List ℕ → Option Neighbors
neighbors_in value =
    option_and_then (λ n. if n == 4 then Some Four else (if n == 8 then Some Eight else None))
    (number_of value)

-- a tree may have so many nodes
abbrev pub most_nodes : ℕ
most_nodes = 4194304

-- how many nodes a tree has, one at least
abbrev pub node_count_in : List ℕ → Option ℕ
node_count_in value = number_within 1 most_nodes value

-- what the descriptors said so far
pub record Described : Type 0 where
  pub states : Option ℕ
  pub neighbors : Option Neighbors
  pub node_count : Option ℕ

-- nothing was described yet
abbrev pub undescribed : Described
undescribed = record { states = None; neighbors = None; node_count = None }

-- a descriptor is described once
abbrev pub once : {X : Type 0} → Option X → Option Described → Option Described
once old described = if is_none old then described else None

-- what one more descriptor says
abbrev pub describe : Described → Descriptor → List ℕ → Option Described
describe d descriptor.States value =
    once d.states (option_map (λ n. record d { states = Some n }) (states_in value))
describe d descriptor.Neighbors value =
    once d.neighbors (option_map (λ n. record d { neighbors = Some n }) (neighbors_in value))
describe d descriptor.Nodes value =
    once d.node_count (option_map (λ n. record d { node_count = Some n }) (node_count_in value))

-- the head, if all three descriptors were there
abbrev pub head_of : Described → Option TreeHead
head_of d =
    option_and_then
    (λ states.
    option_and_then
    (λ neighbors.
    option_map
    (λ count.
    record { states = states; neighbors = neighbors; node_count = count })
    d.node_count)
    d.neighbors)
    d.states

-- the head that the first lines describe, up to one that is no descriptor, and the lines from there
-- on; `last` is where missing lines show
abbrev pub head_from : ℕ → Described → List NumberedLine
    → Result (TreeHead × List NumberedLine) RuleFault
head_from last d [] = Err (BadTree last)
head_from last d (line ∷ lines) =
    option_map_or
    (λ x. ok_or (describe d x.0 x.1) (BadTree line.number) >>= λ e. head_from last e lines)
    (descriptor_of line.text)
    (ok_or (head_of d) (BadTree line.number) >>= λ head. Ok (head, line ∷ lines))

-- a node as its line says it: its depth, and its entries
pub record Node : Type 0 where
  pub depth : ℕ
  pub entries : Entries

-- the words of a line, which blanks part
abbrev pub words : List ℕ → List (List ℕ)
words line = filter is_word (slice_split is_blank line)

-- the numbers that words write, if each writes one
abbrev pub numbers_in : List (List ℕ) → Option (List ℕ)
numbers_in [] = Some []
numbers_in (word ∷ words) =
    option_and_then (λ n. option_map (λ ns. n ∷ ns) (numbers_in words)) (number_of word)

-- the node of some numbers, of which the first is its depth
abbrev pub node_from : List ℕ → Option Node
node_from [] = None
node_from (depth ∷ entries) = Some (record { depth = depth; entries = entries })

-- the depth of the root: it has an entry for the first neighbour, and nodes of depth 1 have the
-- next states
abbrev pub depth_of_root : Neighbors → ℕ
depth_of_root Four = 5
depth_of_root Eight = 9

-- a node's entries are states below n at depth 1, and else the numbers of earlier nodes, of depth
-- one less
abbrev pub do_entries_fit : ℕ → List ℕ → Node → Bool
do_entries_fit n depths node =
    if node.depth == 1 then list_all (λ state. nat_lt state n) node.entries else
    list_all
    (λ number. nat_lt number (length depths) && (slice_index depths number + 1 == node.depth))
    node.entries

-- whether a node may stand behind nodes of these depths: there is room for it, it has an entry for
-- each state, these fit, and the last node is as deep as the root
abbrev pub is_next : TreeHead → List ℕ → Node → Bool
is_next head depths node =
    nat_lt (length depths) head.node_count
    && ((length node.entries == head.states)
    && (do_entries_fit head.states depths node
    && (nat_lt (length depths + 1) head.node_count
    || (node.depth == depth_of_root head.neighbors))))

-- the node that a line says behind others
abbrev pub node_of : TreeHead → List Node → List ℕ → Option Node
node_of head nodes line =
    option_and_then
    (λ numbers.
    option_and_then
    (λ node. if is_next head (map (λ n. n.depth) nodes) node then Some node else None)
    (node_from numbers))
    (numbers_in (words line))

-- nodes, and the one behind them that a line says
abbrev pub with_line : TreeHead → List Node → NumberedLine → Result (List Node) RuleFault
with_line head nodes line =
    ok_or (option_map (λ node. nodes ++ node ∷ []) (node_of head nodes line.text))
    (BadTree line.number)

-- all nodes, where the lines after the head say those behind these
abbrev pub nodes_from : ℕ → TreeHead → List Node → List NumberedLine → Result (List Node) RuleFault
nodes_from last head nodes [] =
    if length nodes == head.node_count then Ok nodes else Err (BadTree last)
nodes_from last head nodes (line ∷ lines) =
    with_line head nodes line >>= λ more. nodes_from last head more lines

-- the number of the last line, or of the one that opens the section where there is none
abbrev pub last_number : ℕ → List NumberedLine → ℕ
last_number opened [] = opened
last_number opened (line ∷ lines) = last_number line.number lines

-- the head of a section, and the lines after it
abbrev pub head_in : Section → Result (TreeHead × List NumberedLine) RuleFault
head_in section = head_from (last_number section.opened section.lines) undescribed section.lines

-- the tree of some nodes, if it is quiescent
abbrev pub if_quiescent : Tree → Result Tree RuleFault
if_quiescent tree = if is_quiescent tree then Ok tree else Err NotQuiescent

-- the tree of a head and nodes
abbrev pub tree_from : TreeHead → List Node → Tree
tree_from head nodes =
    record {
      states = head.states;
      neighbors = head.neighbors;
      nodes = map (λ node. node.entries) nodes;
    }

-- what the lines of a tree mean
abbrev pub tree_of : Section → Result Tree RuleFault
tree_of section = do
  found ← head_in section
  nodes ← nodes_from (last_number section.opened section.lines) found.0 [] found.1
  if_quiescent (tree_from found.0 nodes)
