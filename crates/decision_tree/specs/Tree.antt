-- A tree, and the next state of a cell that it gives.
use Rattle.std.specs.Prelude.{ℕ, ◌-◌, ◌==◌, ◌&&◌, Bool, nat_lt, List, [], ◌∷◌, length, map, slice_index, slice_index_or}
use Rattle.std.specs.List.{list_all}
use Rattle.worlds.specs.Step.{nine_zeros}
use Rattle.decision_tree.specs.declared.tree.Neighbors.{Neighbors}
use Rattle.decision_tree.specs.declared.tree.Neighbors.TheVariants.{Four, Eight}

-- a node: for each state of an input the number of the node to go on with, or the next state where
-- no input is left
abbrev pub Entries : Type 0
Entries = List ℕ

-- a tree: how many states there are, which cells are neighbours, and the nodes in order, numbered
-- from 0, of which the last is the root
pub record Tree : Type 0 where
  pub states : ℕ
  pub neighbors : Neighbors
  pub nodes : List Entries

-- the places of the inputs from the root down, in the order C, N, NE, E, SE, S, SW, W, NW: nw, ne,
-- sw, se, n, w, e, s, c, or without the corners
abbrev pub places_of : Neighbors → List ℕ
places_of Four = 1 ∷ 7 ∷ 3 ∷ 5 ∷ 0 ∷ []
places_of Eight = 8 ∷ 2 ∷ 6 ∷ 4 ∷ 1 ∷ 7 ∷ 3 ∷ 5 ∷ 0 ∷ []

-- the inputs from the root down, among the nine states at and around a cell
abbrev pub inputs_of : Neighbors → List ℕ → List ℕ
inputs_of neighbors around = map (λ place. slice_index around place) (places_of neighbors)

-- the node of this number
abbrev pub node_at : List Entries → ℕ → Entries
node_at nodes number = slice_index_or nodes number []

-- what is found from a node on, where each input chooses an entry
abbrev pub follow : List Entries → ℕ → List ℕ → ℕ
follow nodes number [] = number
follow nodes number (input ∷ inputs) =
    follow nodes (slice_index (node_at nodes number) input) inputs

-- the number of the root, which is the last node
abbrev pub root_of : Tree → ℕ
root_of tree = length tree.nodes - 1

-- the next state of a cell, by the nine states at and around it
abbrev pub next : Tree → List ℕ → ℕ
next tree around = follow tree.nodes (root_of tree) (inputs_of tree.neighbors around)

-- a cell of state 0 among such cells keeps it
abbrev pub is_quiescent : Tree → Bool
is_quiescent tree = next tree nine_zeros == 0

-- from a node on there is a node of n entries for each input, and after the last a state below n
abbrev pub leads : ℕ → List Entries → ℕ → List ℕ → Bool
leads n nodes number [] = nat_lt number n
leads n nodes number (input ∷ inputs) =
    (length (node_at nodes number) == n)
    && list_all (λ entry. leads n nodes entry inputs) (node_at nodes number)

-- a tree that a file may have: it is quiescent, and the root leads to a state whatever the inputs
-- are
abbrev pub is_sound : Tree → Bool
is_sound tree =
    is_quiescent tree && leads tree.states tree.nodes (root_of tree) (places_of tree.neighbors)
