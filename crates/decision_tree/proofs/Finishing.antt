-- The tree of nodes that were read.
use Rattle.decision_tree.proofs.Names.{AreKept, Err, IsKeptTree, IsTreeHead, List, Neighbors, NotQuiescent, Ok, Tree, TreeHead, and_from, ap, arith, depth_of_root, if_quiescent, is_quiescent, leads, length, nat_tests, next, nine_zeros}
use Rattle.decision_tree.proofs.Names.{nodes_in, nodes_of, places_of, root_of, rules, slice_index, sym, tests, tree_from, tree_of_kept, true, ℕ, ◌*◌, ◌+◌, ◌-◌, ◌==◌, ◌∙◌, ◌≡◌, ◌≢◌}
use Rattle.decision_tree.proofs.Following.{root-kept}
use Rattle.decision_tree.proofs.Shared.KeptNodes.{entries-nodes_of}

pub tree-kept : (head : TreeHead) (depths entries : List ℕ) (root : ℕ) → length depths ≡ root + 1 → tree_from head (nodes_of head.states depths entries) ≡ tree_of_kept head.states head.neighbors root entries
tree-kept head depths entries root whole = rw (entries-nodes_of head.states depths entries, whole)

pub if_quiescent-no : (tree : Tree) → next tree nine_zeros ≢ 0 → if_quiescent tree ≡ Err NotQuiescent
if_quiescent-no tree restless = grind (arith, nat_tests)

pub if_quiescent-yes : (tree : Tree) → next tree nine_zeros ≡ 0 → if_quiescent tree ≡ Ok tree
if_quiescent-yes tree still = grind (arith, nat_tests)

-- there is an input for each level
pub levels : (neighbors : Neighbors) → length (places_of neighbors) ≡ depth_of_root neighbors
levels neighbors = grind arith

-- the root leads to a state
pub root-leads : (head : TreeHead) (depths entries : List ℕ) (root : ℕ) → AreKept head depths entries → length depths ≡ head.node_count
    → head.node_count ≡ root + 1 → leads head.states (nodes_in head.states (root + 1) entries) root (places_of head.neighbors) ≡ true
root-leads head depths entries root kept whole last =
    let at : head.node_count - 1 ≡ root = omega (arith, last) in
    let deep : length (places_of head.neighbors) ≡ slice_index depths root = levels head.neighbors ∙ sym (kept.rooted whole) ∙ ap (slice_index depths) at in
    rw (← last, ← whole) (kept.leading root (places_of head.neighbors) (omega (arith, whole, last)) deep)

-- such a tree is one that a file may have
pub kept-tree : (head : TreeHead) (depths entries : List ℕ) (root : ℕ) → IsTreeHead head → AreKept head depths entries
    → length depths ≡ head.node_count → head.node_count ≡ root + 1 → next (tree_of_kept head.states head.neighbors root entries) nine_zeros ≡ 0
    → IsKeptTree head.states head.neighbors root entries
kept-tree head depths entries root limits kept whole last still =
    let tree = tree_of_kept head.states head.neighbors root entries in
    let quiet : (next tree nine_zeros == 0) ≡ true = search (rules, tests) in
    record {
      at_least = limits.at_least;
      at_most = limits.at_most;
      filled = kept.filled ∙ ap (λ k. k * head.states) (whole ∙ last);
      sound = and_from (is_quiescent tree) (leads head.states tree.nodes (root_of tree) (places_of head.neighbors)) quiet
          (ap (λ r. leads head.states tree.nodes r (places_of head.neighbors)) (root-kept head.states head.neighbors root entries) ∙ root-leads head depths entries root kept whole last);
    }
