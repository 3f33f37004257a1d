-- The nodes whose entries are kept one after another.
use Rattle.decision_tree.proofs.Names.{Entries, List, [], ap, arith, common_steps, concat, drop, drop-append-le, length, map, nil_from_length, node_at, nodes_in, nodes_of, refl, slice_index, slice_index_or, suc, take, take-append-drop}
use Rattle.decision_tree.proofs.Names.{take-append-le, take_all, zero, ℕ, ◌*◌, ◌++◌, ◌+◌, ◌-◌, ◌<◌, ◌∙◌, ◌∷◌, ◌≡◌, ◌≤◌}

pub length-nodes_in : (n count : ℕ) (entries : List ℕ) → length (nodes_in n count entries) ≡ count
length-nodes_in n zero entries = refl
length-nodes_in n (suc count) entries = ap suc (length-nodes_in n count (drop n entries))

-- the entries of all nodes, one node after another
pub entries-nodes_in : (n count : ℕ) (entries : List ℕ) → length entries ≡ count * n → concat (nodes_in n count entries) ≡ entries
entries-nodes_in n zero entries filled = grind (arith, common_steps, nil_from_length entries)
entries-nodes_in n (suc count) entries filled =
    ap (λ rest. take n entries ++ rest) (entries-nodes_in n count (drop n entries) (grind (arith, common_steps))) ∙ take-append-drop n entries

-- an entry of a node, by its place among all entries
pub entry-in : (n count : ℕ) (entries : List ℕ) (number input : ℕ) → number < count → input < n → slice_index (node_at (nodes_in n count entries) number) input ≡ slice_index entries (number * n + input)
entry-in n zero entries number input inside low = absurd (omega arith)
entry-in n (suc count) entries zero input inside low = grind (arith, common_steps)
entry-in n (suc count) entries (suc number) input inside low = grind (arith, common_steps, entry-in n count (drop n entries) number input)

-- a node that has entries is one of the nodes
pub none-past : (nodes : List Entries) (number n : ℕ) → 0 < n → length (node_at nodes number) ≡ n → number < length nodes
none-past nodes number n some h = grind (arith, common_steps)

-- n more entries are one more node
pub nodes_in-push : (n count : ℕ) (entries node : List ℕ) → length entries ≡ count * n → length node ≡ n → nodes_in n (count + 1) (entries ++ node) ≡ nodes_in n count entries ++ node ∷ []
nodes_in-push n zero entries node filled width = grind (arith, common_steps, nil_from_length entries, take_all n node)
nodes_in-push n (suc count) entries node filled width =
    grind (arith, common_steps, nodes_in-push n count (drop n entries) node, take-append-le n entries node, drop-append-le n entries node)

pub nodes_of-push : (n : ℕ) (depths entries : List ℕ) (depth : ℕ) (node : List ℕ) → length entries ≡ length depths * n → length node ≡ n
    → nodes_of n (depths ++ depth ∷ []) (entries ++ node) ≡ nodes_of n depths entries ++ record { depth = depth; entries = node } ∷ []
nodes_of-push n [] entries depth node filled width = grind (arith, common_steps, nil_from_length entries, take_all n node)
nodes_of-push n (d ∷ depths) entries depth node filled width =
    grind (arith, common_steps, nodes_of-push n depths (drop n entries) depth node, take-append-le n entries node, drop-append-le n entries node)

pub entries-nodes_of : (n : ℕ) (depths entries : List ℕ) → map (λ node. node.entries) (nodes_of n depths entries) ≡ nodes_in n (length depths) entries
entries-nodes_of n [] entries = refl
entries-nodes_of n (d ∷ depths) entries = ap (λ nodes. take n entries ∷ nodes) (entries-nodes_of n depths (drop n entries))

pub depths-nodes_of : (n : ℕ) (depths entries : List ℕ) → map (λ node. node.depth) (nodes_of n depths entries) ≡ depths
depths-nodes_of n [] entries = refl
depths-nodes_of n (d ∷ depths) entries = ap (λ ds. d ∷ ds) (depths-nodes_of n depths (drop n entries))

pub length-nodes_of : (n : ℕ) (depths entries : List ℕ) → length (nodes_of n depths entries) ≡ length depths
length-nodes_of n [] entries = refl
length-nodes_of n (d ∷ depths) entries = ap suc (length-nodes_of n depths (drop n entries))

-- the first element and those behind it
pub first-and-others : {X : Type 0} (xs : List X) (d : X) → 1 ≤ length xs → xs ≡ slice_index_or xs 0 d ∷ take (length xs - 1) (drop 1 xs)
first-and-others xs d h = grind (arith, common_steps)
