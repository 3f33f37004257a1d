-- Equal trees are kept in equal numbers.
use Rattle.decision_tree.proofs.Names.{List, Neighbors, Tree, ap, arith, concat, length, nodes_in, sym, tree_of_kept, ℕ, ◌*◌, ◌+◌, ◌/◌, ◌<◌, ◌∙◌, ◌≡◌}
use Rattle.std.proofs.Math.Nat.{mul-div_cancel}
use Rattle.decision_tree.proofs.Shared.KeptNodes.{entries-nodes_in}

pub entries_same : (n m : ℕ) (e f : Neighbors) (r s : ℕ) (xs ys : List ℕ) → length xs ≡ (r + 1) * n → length ys ≡ (s + 1) * m → tree_of_kept n e r xs ≡ tree_of_kept m f s ys → xs ≡ ys
entries_same n m e f r s xs ys filled full same =
    let nodes : nodes_in n (r + 1) xs ≡ nodes_in m (s + 1) ys = ap (λ (t : Tree). t.nodes) same in
    sym (entries-nodes_in n (r + 1) xs filled) ∙ ap concat nodes ∙ entries-nodes_in m (s + 1) ys full

-- as many entries make as many nodes
pub roots_same : (n r s : ℕ) → 0 < n → (r + 1) * n ≡ (s + 1) * n → r ≡ s
roots_same n r s some h =
    let counts : r + 1 ≡ s + 1 = sym (mul-div_cancel (r + 1) some) ∙ ap (λ m. m / n) h ∙ mul-div_cancel (s + 1) some in
    omega (arith, counts)
