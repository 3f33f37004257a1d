-- How a tree is kept: the entries of all nodes one after another.
use Rattle.std.specs.Prelude.{◌≡◌, ℕ, zero, suc, ◌+◌, ◌*◌, ◌^◌, ◌-◌, ◌<◌, ◌≤◌, min, true, List, [], ◌∷◌, length, take, drop, slice_index, EachIndex}
use Rattle.rule_file.specs.States.{least_states, most_states}
use Rattle.decision_tree.specs.declared.tree.Neighbors.{Neighbors}
use Rattle.decision_tree.specs.declared.descriptors.TreeHead.{TreeHead}
use Rattle.decision_tree.specs.Tree.{Entries, Tree, leads, is_sound}
use Rattle.decision_tree.specs.TreeLines.{Node, depth_of_root, most_nodes}

-- so many nodes, whose n entries each stand one after another
abbrev pub nodes_in : ℕ → ℕ → List ℕ → List Entries
nodes_in n zero entries = []
nodes_in n (suc count) entries = take n entries ∷ nodes_in n count (drop n entries)

-- the tree of such nodes, of which the one of the number `root` is the last
abbrev pub tree_of_kept : ℕ → Neighbors → ℕ → List ℕ → Tree
tree_of_kept states neighbors root entries =
    record { states = states; neighbors = neighbors; nodes = nodes_in states (root + 1) entries }

-- the tree of these entries is one that a file may have
pub record IsKeptTree (states : ℕ) (neighbors : Neighbors) (root : ℕ) (entries : List ℕ)
    : Type 0 where
  pub at_least : least_states ≤ states
  pub at_most : states ≤ most_states
  pub filled : length entries ≡ (root + 1) * states
  pub sound : is_sound (tree_of_kept states neighbors root entries) ≡ true

-- so many entries store the nodes up to the root, from which these inputs lead to a state
pub record Stores (states : ℕ) (inputs : List ℕ) (root : ℕ) (entries : List ℕ) : Type 0 where
  pub at_most : states ≤ most_states
  pub filled : length entries ≡ (root + 1) * states
  pub leading : leads states (nodes_in states (root + 1) entries) root inputs ≡ true

-- the head of a tree has numbers within their limits
pub record IsTreeHead (head : TreeHead) : Type 0 where
  pub at_least : least_states ≤ head.states
  pub at_most : head.states ≤ most_states
  pub some : 1 ≤ head.node_count
  pub few : head.node_count ≤ most_nodes

-- nodes of these depths, whose n entries each stand one after another
abbrev pub nodes_of : ℕ → List ℕ → List ℕ → List Node
nodes_of n [] entries = []
nodes_of n (depth ∷ depths) entries =
    record { depth = depth; entries = take n entries } ∷ nodes_of n depths (drop n entries)

-- a number as it is kept until it is looked at: all from 2^32 - 1 on are alike
abbrev pub saturated : ℕ → ℕ
saturated n = min (2 ^ 32 - 1) n

-- nodes that lines may say: none is deeper than there are nodes, each leads to states through as
-- many nodes as it is deep, and the last is as deep as the root
pub record AreKept (head : TreeHead) (depths entries : List ℕ) : Type 0 where
  pub filled : length entries ≡ length depths * head.states
  pub few : length depths ≤ head.node_count
  pub low : EachIndex depths (λ k. slice_index depths k ≤ length depths)
  pub leading : (number : ℕ) (inputs : List ℕ) → number < length depths
      → length inputs ≡ slice_index depths number
      → leads head.states (nodes_in head.states (length depths) entries) number inputs ≡ true
  pub rooted : length depths ≡ head.node_count
      → slice_index depths (head.node_count - 1) ≡ depth_of_root head.neighbors
