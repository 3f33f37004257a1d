-- Numbers that are kept up to 2^32 - 1, and the node that a line says.
use Rattle.decision_tree.proofs.Names.{AreKept, BadTree, Bool, IsTreeHead, List, Node, None, Option, Result, RuleFault, Some, TreeHead, [], arith, cond, false, is_next, list_all, map, nat_lt, nat_tests, node_from, nodes_of, ok_or}
use Rattle.decision_tree.proofs.Names.{option_and_then, option_map, refl, saturated, sym, true, ℕ, ◌++◌, ◌∙◌, ◌∷◌, ◌≡◌}
use Rattle.decision_tree.proofs.Shared.Growing.{is_next-node, depth-low, entries-low}
use Rattle.decision_tree.proofs.Shared.KeptNodes.{depths-nodes_of}

-- small numbers are kept as they are
all-small : (ns : List ℕ) → list_all (λ n. nat_lt n 16777216) ns ≡ true → map saturated ns ≡ ns
all-small [] h = refl
all-small (n ∷ ns) h = grind (arith, nat_tests, all-small ns)

all-below : (ns : List ℕ) → list_all (λ n. nat_lt n 16777216) (map saturated ns) ≡ true → map saturated ns ≡ ns
all-below [] h = refl
all-below (n ∷ ns) h = grind (arith, nat_tests, all-below ns)

-- a next node is kept as it is
record IsSame (n : ℕ) (ns : List ℕ) : Type 0 where
  first : saturated n ≡ n
  rest : map saturated ns ≡ ns

same-kept : (head : TreeHead) (depths entries : List ℕ) (n : ℕ) (ns : List ℕ) → IsTreeHead head → AreKept head depths entries → is_next head depths (record { depth = saturated n; entries = map saturated ns }) ≡ true → IsSame n ns
same-kept head depths entries n ns limits kept h =
    let next = is_next-node head depths (saturated n) (map saturated ns) h in
    let low = depth-low head depths (saturated n) (map saturated ns) limits.at_least kept.low next in
    record {
      first = omega (arith, low, next.room, limits.few);
      rest = all-below ns (entries-low head depths (saturated n) (map saturated ns) limits next);
    }

same-said : (head : TreeHead) (depths entries : List ℕ) (n : ℕ) (ns : List ℕ) → IsTreeHead head → AreKept head depths entries → is_next head depths (record { depth = n; entries = ns }) ≡ true → IsSame n ns
same-said head depths entries n ns limits kept h =
    let next = is_next-node head depths n ns h in
    let low = depth-low head depths n ns limits.at_least kept.low next in
    record {
      first = omega (arith, low, next.room, limits.few);
      rest = all-small ns (entries-low head depths n ns limits next);
    }

-- whether it is the next node is the same of a node as it is kept, and if it is, it is kept as it is
next-kept : (head : TreeHead) (depths entries : List ℕ) (n : ℕ) (ns : List ℕ) → IsTreeHead head → AreKept head depths entries
    → is_next head depths (record { depth = saturated n; entries = map saturated ns }) ≡ is_next head depths (record { depth = n; entries = ns })
next-kept head depths entries n ns limits kept =
    by _ _ (λ h. let same = same-kept head depths entries n ns limits kept h in rw (same.first, same.rest))
    (λ k. let same = same-said head depths entries n ns limits kept k in rw (same.first, same.rest))
  where
    by : (a b : Bool) → (a ≡ true → a ≡ b) → (b ≡ true → a ≡ b) → a ≡ b
    by a b f g = grind (arith, f, g)

-- nodes with one more, where it is the next
abbrev if_next : List Node → ℕ → Node → Bool → Result (List Node) RuleFault
if_next nodes number node b = ok_or (option_map (λ x. nodes ++ x ∷ []) (cond b (Some node) None)) (BadTree number)

-- what some numbers say behind nodes
abbrev with_numbers : TreeHead → List Node → ℕ → Option (List ℕ) → Result (List Node) RuleFault
with_numbers head nodes number read = ok_or (option_map (λ node. nodes ++ node ∷ [])
    (option_and_then (λ numbers. option_and_then (λ node. cond (is_next head (map (λ n. n.depth) nodes) node) (Some node) None) (node_from numbers))
    read)) (BadTree number)

-- a line whose numbers are the next node, as they are kept, or aren't
pub with_kept : (head : TreeHead) (depths entries : List ℕ) (number : ℕ) (read : Option (List ℕ)) (depth : ℕ) (node : List ℕ) → IsTreeHead head
    → AreKept head depths entries → Some (depth ∷ node) ≡ option_map (map saturated) read → (b : Bool)
    → is_next head depths (record { depth = depth; entries = node }) ≡ b
    → with_numbers head (nodes_of head.states depths entries) number read ≡ if_next (nodes_of head.states depths entries) number
    (record { depth = depth; entries = node }) b
with_kept head depths entries number None depth node limits kept h b next = absurd cc
with_kept head depths entries number (Some []) depth node limits kept h b next = absurd cc
with_kept head depths entries number (Some (n ∷ ns)) depth node limits kept h b next =
    let nodes = nodes_of head.states depths entries in
    let said : Node = record { depth = n; entries = ns } in
    let depth_is : depth ≡ saturated n = cc in
    let node_is : node ≡ map saturated ns = cc in
    let as_kept : is_next head depths (record { depth = saturated n; entries = map saturated ns }) ≡ b = rw (← depth_is, ← node_is) next in
    let test : is_next head (map (λ x. x.depth) nodes) said ≡ b =
    rw (depths-nodes_of head.states depths entries) (sym (next-kept head depths entries n ns limits kept) ∙ as_kept) in
    rw test (by b as_kept)
  where
    by : (b : Bool) → is_next head depths (record { depth = saturated n; entries = map saturated ns }) ≡ b
        → if_next (nodes_of head.states depths entries) number (record { depth = n; entries = ns }) b ≡ if_next (nodes_of head.states depths entries) number (record { depth = depth; entries = node }) b
    by true k = let same = same-kept head depths entries n ns limits kept k in cc (same.first, same.rest, h)
    by false k = refl
