-- The nodes of a tree as they are made, and the lists of tails whose nodes are known.
use Rattle.std.specs.Prelude.{◌≡◌, ℕ, ◌+◌, ◌<◌, ◌≤◌, ◌==◌, ◌&&◌, Bool, false, All, List, [], ◌∷◌, ◌++◌, length, map, drop, slice_index, slice_index_or, Some}
use Rattle.std.specs.List.{IsDistinct}
use Rattle.std.specs.Str.{bytes_eq}
use Rattle.std.specs.HashMap.{get}
use Rattle.rule_file.specs.States.{most_states}
use Rattle.tree_translation.specs.declared.layers.Layer.{Layer}
use Rattle.tree_translation.specs.declared.listed.Listed.{Listed}
use Rattle.tree_translation.specs.declared.listed.Node.{Node}
use Rattle.tree_translation.specs.declared.numbering.NodeTable.{NodeTable}
use Rattle.tree_translation.specs.Layers.{Fit}
use Rattle.tree_translation.specs.Starts.{NeedStarts}
use Rattle.tree_translation.specs.Translation.{AreLeaves, Does, LeftOf, node_limit, outcome}
use Rattle.decision_tree.specs.Tree.{Entries, follow, node_at}

-- two lists are the same
abbrev pub same_listed : Listed → Listed → Bool
same_listed a b = (a.input == b.input) && bytes_eq a.numbers.items b.numbers.items

-- two nodes are the same
abbrev pub same_node : Node → Node → Bool
same_node a b = (a.input == b.input) && bytes_eq a.entries b.entries

abbrev pub inputs_in : List Node → List ℕ
inputs_in nodes = map (λ (node : Node). node.input) nodes

abbrev pub entries_in : List Node → List Entries
entries_in nodes = map (λ (node : Node). node.entries) nodes

abbrev pub input_at : List Node → ℕ → ℕ
input_at nodes number = slice_index (inputs_in nodes) number

-- a node stands here
pub record IsStored (nodes : List Node) (node : Node) (number : ℕ) : Type 0 where
  pub inside : number < length nodes
  pub input : input_at nodes number ≡ node.input
  pub entries : node_at (entries_in nodes) number ≡ node.entries

-- a tree may have no more nodes than these, and this one isn't among them
pub record IsFull (nodes : List Node) (node : Node) : Type 0 where
  pub all : length nodes ≡ node_limit
  pub apart : IsDistinct same_node (nodes ++ node ∷ [])

-- a node of this input: where more inputs follow, its entries are nodes of the next
pub record IsNode (states depth : ℕ) (nodes : List Node) (input : ℕ) (entries : Entries)
    : Type 0 where
  pub wide : length entries ≡ states
  pub early : input < depth
  pub inside : (s : ℕ) → s < states → input + 1 < depth → slice_index entries s < length nodes
  pub down : (s : ℕ) → s < states → input + 1 < depth
      → input_at nodes (slice_index entries s) ≡ input + 1

-- different nodes
pub record AreNodes (states depth : ℕ) (nodes : List Node) : Type 0 where
  pub each : (k : ℕ) → k < length nodes
      → IsNode states depth nodes (input_at nodes k) (node_at (entries_in nodes) k)
  pub apart : IsDistinct same_node nodes

-- the number of a node that does what a list of tails does from this input on
pub record IsNumberOf (states : ℕ) (layers : List Layer) (nodes : List Node) (input : ℕ)
    (list : List ℕ) (number : ℕ)
    : Type 0 where
  pub inside : number < length nodes
  pub at : input_at nodes number ≡ input
  pub does : Does states (drop input layers) (entries_in nodes) list number

-- the nodes that were made, and the numbers of those that do what was listed
pub record Knows (states : ℕ) (layers : List Layer) (found : NodeTable) : Type 0 where
  pub few : length found.nodes.keys ≤ node_limit
  pub nodes : AreNodes states (length layers) found.nodes.keys
  pub numbers : (key : Listed) (number : ℕ) → get same_listed found.numbers key ≡ Some number
      → IsNumberOf states layers found.nodes.keys key.input key.numbers.items number

-- behind some beginning of inputs this gives what a node does
pub record IsBegun (states depth : ℕ) (give : List ℕ → ℕ) (nodes : List Node) (number : ℕ)
    : Type 0 where
  pub beginning : List ℕ
  pub long : length beginning ≡ input_at nodes number
  pub below : All (λ s. s < states) beginning
  pub same : (rest : List ℕ) → input_at nodes number + length rest ≡ depth
      → All (λ s. s < states) rest
      → give (beginning ++ rest) ≡ follow (entries_in nodes) number rest

abbrev pub AreBegun : ℕ → ℕ → (List ℕ → ℕ) → List Node → Type 0
AreBegun states depth give nodes = (k : ℕ) → k < length nodes → IsBegun states depth give nodes k

-- behind some beginning of inputs this gives what a list of tails does
pub record IsLeft (states : ℕ) (layers : List Layer) (give : List ℕ → ℕ) (input : ℕ) (list : List ℕ)
    : Type 0 where
  pub beginning : List ℕ
  pub long : length beginning ≡ input
  pub below : All (λ s. s < states) beginning
  pub same : (rest : List ℕ) → input + length rest ≡ length layers → All (λ s. s < states) rest
      → give (beginning ++ rest) ≡ outcome (drop input layers) list rest

-- more nodes came, each for an input from `from` on, and each for a beginning where the tails that
-- were looked at are left behind one
pub record GrowsNodes (states : ℕ) (layers : List Layer) (input from : ℕ) (list : List ℕ)
    (old new : NodeTable)
    : Type 0 where
  pub known : Knows states layers new
  pub more : List Node
  pub joined : new.nodes.keys ≡ old.nodes.keys ++ more
  pub late : All (λ (node : Node). from ≤ node.input) more
  pub begun : (give : List ℕ → ℕ) → AreBegun states (length layers) give old.nodes.keys
      → IsLeft states layers give input list → AreBegun states (length layers) give new.nodes.keys

-- a tree that gives the same needs more nodes than a tree may have
abbrev pub NeedsTooMany : ℕ → List Layer → ℕ → List ℕ → NodeTable → Type 0
NeedsTooMany states layers input list found =
    (give : List ℕ → ℕ) → AreBegun states (length layers) give found.nodes.keys
    → IsLeft states layers give input list
    → NeedStarts states (length layers) (λ k inputs. give inputs) 1 (node_limit + 1)

-- the number of a node for what is left of a list behind a state
pub record IsEntry (states : ℕ) (layers : List Layer) (nodes : List Node) (input : ℕ)
    (list : List ℕ) (state number : ℕ)
    : Type 0 where
  pub left : List ℕ
  pub is : (d : Layer) → LeftOf (slice_index_or layers input d) state list left
  pub number_of : IsNumberOf states layers nodes (input + 1) left number

-- the entries of a node that does what a list of tails does
pub record AreEntries (states : ℕ) (layers : List Layer) (nodes : List Node) (input : ℕ)
    (list entries : List ℕ)
    : Type 0 where
  pub width : length entries ≡ states
  pub leaves : input + 1 ≡ length layers → (d : Layer)
      → AreLeaves states (slice_index_or layers input d) list entries
  pub each : input + 1 < length layers → (s : ℕ) → s < states
      → IsEntry states layers nodes input list s (slice_index entries s)

-- layers for these states, none of which has more tails than there is room for
pub record AreFit (states : ℕ) (layers : List Layer) (room : ℕ) : Type 0 where
  pub some : 1 ≤ states
  pub at_most : states ≤ most_states
  pub fit : Fit states layers
  pub few : All (λ (layer : Layer). length layer.tails.items ≤ room) layers

-- tails of the layer of this input
pub record AreTailsAt (layers : List Layer) (input : ℕ) (list : List ℕ) : Type 0 where
  pub there : input < length layers
  pub inside : (d : Layer) → All (λ n. n < length (slice_index_or layers input d).tails.items) list

-- layers that fit, tails of the layer of an input, nodes that are known, and a false for each tail
-- of any layer
pub record CanNumber (states : ℕ) (layers : List Layer) (input : ℕ) (list : List ℕ)
    (marks : List Bool) (found : NodeTable)
    : Type 0 where
  pub fit : AreFit states layers (length marks)
  pub tails : AreTailsAt layers input list
  pub clear : All (λ b. b ≡ false) marks
  pub known : Knows states layers found
