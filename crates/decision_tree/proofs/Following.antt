-- Following inputs through entries that are kept one after another.
use Rattle.decision_tree.proofs.Names.{All, Bor, IsKeptTree, List, Neighbors, Stores, and_parts, ap, arith, drop, drop_more, follow, get_or, get_or-map, inputs_of, is_quiescent, leads, leads-on, leads-width, length, length-map, next}
use Rattle.decision_tree.proofs.Names.{node_at, nodes_in, places_of, root_of, slice_index, states_at, sym, tree_of_kept, true, ℕ, ◌*◌, ◌+◌, ◌<◌, ◌∙◌, ◌∷◌, ◌≡◌}
use Rattle.std.proofs.lemmas.Nat.{mul-add-lt}
use Rattle.decision_tree.proofs.Shared.KeptNodes.{entry-in, length-nodes_in, none-past}

-- what one input does, where the entry that it chooses stands at `place`
pub record Step (n count : ℕ) (entries : List ℕ) (number : ℕ) (inputs : List ℕ) (k place : ℕ) : Type 0 where
  pub inside : place < length entries
  pub leading : leads n (nodes_in n count entries) (slice_index entries place) (drop (k + 1) inputs) ≡ true
  pub found : follow (nodes_in n count entries) (slice_index entries place) (drop (k + 1) inputs) ≡ follow (nodes_in n count entries) number (drop k inputs)

pub one_step : (n count : ℕ) (entries : List ℕ) (number : ℕ) (inputs : List ℕ) (k place : ℕ) → length entries ≡ count * n
    → leads n (nodes_in n count entries) number (drop k inputs) ≡ true → k < length inputs → get_or inputs k 0 < n
    → place ≡ number * n + get_or inputs k 0 → Step n count entries number inputs k place
one_step n count entries number inputs k place filled leading more low at =
    let nodes = nodes_in n count entries in
    let input = get_or inputs k 0 in
    let later = drop (k + 1) inputs in
    let split : drop k inputs ≡ input ∷ later = drop_more inputs k 0 more in
    let on : leads n nodes number (input ∷ later) ≡ true = rw split at leading in
    let among : number < length nodes = none-past nodes number n (omega (arith, low)) (leads-width n nodes number input later on) in
    let there : number < count = omega (arith, among, length-nodes_in n count entries) in
    let chosen : slice_index entries place ≡ slice_index (node_at nodes number) input = rw at (sym (entry-in n count entries number input there low)) in
    record {
      inside = omega (arith, at, filled, mul-add-lt number n input count there low);
      leading = rw chosen (leads-on n nodes number input later on low);
      found = rw (chosen, split);
    }

-- what stands where there is no input
abbrev pub no_input : Bor ℕ
no_input = record { ref_ptr = (0, 0); now = 0 }

-- the same, where the inputs stand behind references
pub step_at : (n count : ℕ) (entries : List ℕ) (number : ℕ) (inputs : List (Bor ℕ)) (k place : ℕ) → length entries ≡ count * n
    → leads n (nodes_in n count entries) number (drop k (states_at inputs)) ≡ true → k < length inputs → All (λ s. s < n) (states_at inputs)
    → place ≡ number * n + (get_or inputs k no_input).now → Step n count entries number (states_at inputs) k place
step_at n count entries number inputs k place filled leading more below at =
    let inside : k < length (states_at inputs) = rw (length-map inputs (λ (input : Bor ℕ). input.now)) more in
    let same = get_or-map (λ (input : Bor ℕ). input.now) inputs k no_input 0 more in
    one_step n count entries number (states_at inputs) k place filled leading inside (below k 0 inside) (at ∙ ap (λ s. number * n + s) (sym same))

-- the root of a kept tree is its last node
pub root-kept : (n : ℕ) (neighbors : Neighbors) (root : ℕ) (entries : List ℕ) → root_of (tree_of_kept n neighbors root entries) ≡ root
root-kept n neighbors root entries = omega (arith, length-nodes_in n (root + 1) entries)

pub next-kept : (n : ℕ) (neighbors : Neighbors) (root : ℕ) (entries around : List ℕ) → follow (nodes_in n (root + 1) entries) root (inputs_of neighbors around) ≡ next (tree_of_kept n neighbors root entries) around
next-kept n neighbors root entries around =
    ap (λ r. follow (nodes_in n (root + 1) entries) r (inputs_of neighbors around)) (sym (root-kept n neighbors root entries))

pub stores-kept : (n : ℕ) (neighbors : Neighbors) (root : ℕ) (entries : List ℕ) → IsKeptTree n neighbors root entries → Stores n (places_of neighbors) root entries
stores-kept n neighbors root entries kept =
    let tree = tree_of_kept n neighbors root entries in
    record {
      at_most = kept.at_most;
      filled = kept.filled;
      leading = rw (root-kept n neighbors root entries) at (and_parts (is_quiescent tree) (leads n tree.nodes (root_of tree) (places_of neighbors)) kept.sound).1;
    }
