-- Trees that are written read back.
use Rattle.decision_tree.proofs.Names.{AllByRecursion, BadTree, Bool, Described, Descriptor, EachIsNext, Eight, Err, Four, IsTreeHead, IsWide, List, Neighbors, Node, None, NotQuiescent, NumberedLine, Ok, Option, Parts, Some, TreeHead}
use Rattle.decision_tree.proofs.Names.{WrittenMeansTheSame, [], ap, append-nil, append_assoc, arith, codes, cond, decimal, describe, descriptor_named, descriptor_of, differs, digit-visible, do_entries_fit, false, head_from, head_of}
use Rattle.decision_tree.proofs.Names.{if_quiescent, is_blank, is_next, last_number, least_states, length, length-append, list_all, map, most_nodes, most_states, nat_lt, nat_tests, neighbors_text, node_line, node_of, nodes_from}
use Rattle.decision_tree.proofs.Names.{number_of-decimal, numbered_from, numbers-bytes, numbers_in, numbers_line, ok_or, option_and_then, option_map, refl, slice_index, tree_from, true, undescribed, visible-solid, within-read}
use Rattle.decision_tree.proofs.Names.{words-numbers, written_lines, written_section, ℕ, ◌&&◌, ◌++◌, ◌+◌, ◌<◌, ◌==◌, ◌>>=◌, ◌∙◌, ◌∷◌, ◌≡◌, ◌≤◌}
use Rattle.text_lines.proofs.Shared.NamedValues.{named_value-decimal, named_value-none}
use Rattle.decision_tree.specs.declared.descriptors.Descriptor.TheVariants as descriptor
use Rattle.decision_tree.proofs.Shared.Growing.{is_next-node}

-- what a name and its value describe
abbrev described_by : List ℕ × List ℕ → Option (Descriptor × List ℕ)
described_by named = option_map (λ d. (d, named.1)) (descriptor_named named.0)

states-line : (n : ℕ) → IsWide n → descriptor_of (codes "num_states=" ++ decimal n) ≡ Some (descriptor.States, decimal n)
states-line n h =
    ap (option_and_then described_by)
    (named_value-decimal 61 (codes "num_states") n (refl, (refl, (refl, (refl, (refl, (refl, (refl, (refl, (refl, (refl, tt)))))))))) h)

nodes-line : (n : ℕ) → IsWide n → descriptor_of (codes "num_nodes=" ++ decimal n) ≡ Some (descriptor.Nodes, decimal n)
nodes-line n h =
    ap (option_and_then described_by)
    (named_value-decimal 61 (codes "num_nodes") n (refl, (refl, (refl, (refl, (refl, (refl, (refl, (refl, (refl, tt))))))))) h)

-- one descriptor after another
head-step : (last : ℕ) (d e : Described) (line : NumberedLine) (lines : List NumberedLine) (x : Descriptor) (value : List ℕ)
    → descriptor_of line.text ≡ Some (x, value) → describe d x value ≡ Some e → head_from last d (line ∷ lines) ≡ head_from last e lines
head-step last d e line lines x value is said = rw (is, said)

-- and the line behind them
head-end : (last : ℕ) (d : Described) (head : TreeHead) (line : NumberedLine) (lines : List NumberedLine) → descriptor_of line.text ≡ None → head_of d ≡ Some head → head_from last d (line ∷ lines) ≡ Ok (head, line ∷ lines)
head-end last d head line lines is said = rw (is, said)

neighbors-step : (last : ℕ) (states : ℕ) (neighbors : Neighbors) (number : ℕ) (lines : List NumberedLine)
    → head_from last (record undescribed { states = Some states }) (record
    { number = number; text = codes "num_neighbors=" ++ neighbors_text neighbors } ∷ lines) ≡ head_from last
    (record { states = Some states; neighbors = Some neighbors; node_count = None }) lines
neighbors-step last states Four number lines = refl
neighbors-step last states Eight number lines = refl

-- a line of numbers is no descriptor
numbers-undescribed : (n : ℕ) (ns : List ℕ) → AllByRecursion IsWide (n ∷ ns) → descriptor_of (numbers_line (n ∷ ns)) ≡ None
numbers-undescribed n ns h =
    ap (option_and_then described_by)
    (named_value-none 61 (numbers_line (n ∷ ns)) (numbers-bytes (λ b. (b == 61) ≡ false) refl (λ b k. let high : b ≤ 57 = k.1 in differs b 61 (λ e. omega arith)) n ns h))

parts-blank : Parts is_blank
parts-blank = record { space = refl; digit = λ b h. visible-solid b (digit-visible b h) }

numbers-read : (ns : List ℕ) → AllByRecursion IsWide ns → numbers_in (map decimal ns) ≡ Some ns
numbers-read [] h = refl
numbers-read (n ∷ ns) h = rw (number_of-decimal n h.0, numbers-read ns h.1)

-- the line of a node that may stand there says it
node-read : (head : TreeHead) (nodes : List Node) (node : Node) → AllByRecursion IsWide (node.depth ∷ node.entries) → is_next head (map (λ n. n.depth) nodes) node ≡ true → node_of head nodes (node_line node) ≡ Some node
node-read head nodes node wide is =
    rw (words-numbers is_blank parts-blank node.depth node.entries wide, numbers-read (node.depth ∷ node.entries) wide, is)

-- numbers below the count of nodes are written in full
all-wide : (p : ℕ → Bool) (entries : List ℕ) → ((n : ℕ) → p n ≡ true → n < most_nodes) → list_all p entries ≡ true → AllByRecursion IsWide entries
all-wide p [] low h = tt
all-wide p (n ∷ ns) low h = grind (arith, low n, all-wide p ns low)

fits-low : (head : TreeHead) (depths : List ℕ) (node : Node) → IsTreeHead head → length depths < head.node_count → do_entries_fit head.states depths node ≡ true → AllByRecursion IsWide node.entries
fits-low head depths node limits room h = by (node.depth == 1) h
  where
    by : (v : Bool) → cond v (list_all (λ state. nat_lt state head.states) node.entries)
        (list_all (λ number. nat_lt number (length depths) && (slice_index depths number + 1 == node.depth)) node.entries) ≡ true
        → AllByRecursion IsWide node.entries
    by true h = all-wide _ node.entries (λ n k. grind (arith, nat_tests, k, limits.at_most)) h
    by false h = all-wide _ node.entries (λ n k. grind (arith, nat_tests, k, limits.few, room)) h

pub node-wide : (head : TreeHead) (nodes : List Node) (node : Node) → IsTreeHead head → node.depth ≤ head.node_count → is_next head (map (λ n. n.depth) nodes) node ≡ true → AllByRecursion IsWide (node.depth ∷ node.entries)
node-wide head nodes node limits low h =
    let depths = map (λ (n : Node). n.depth) nodes in
    let is = is_next-node head depths node.depth node.entries h in
    (omega (arith, low, limits.few), fits-low head depths node limits is.room is.fits)

-- all nodes read back, one behind another
nodes-taken : (last number : ℕ) (head : TreeHead) (nodes others : List Node) → IsTreeHead head → length nodes + length others ≡ head.node_count
    → EachIsNext head nodes others → AllByRecursion (λ node. node.depth ≤ head.node_count) others
    → nodes_from last head nodes (numbered_from number (map node_line others)) ≡ Ok (nodes ++ others)
nodes-taken last number head nodes [] limits all h low =
    let is : (length nodes == head.node_count) ≡ true = grind (arith, nat_tests) in
    rw (is, append-nil nodes)
nodes-taken last number head nodes (node ∷ others) limits all h low =
    ap (λ read. ok_or (option_map (λ node. nodes ++ node ∷ []) read) (BadTree number) >>= λ more. nodes_from last head more (numbered_from (number + 1) (map node_line others)))
    (node-read head nodes node (node-wide head nodes node limits low.0 h.0) h.0)
    ∙ nodes-taken last (number + 1) head (nodes ++ node ∷ []) others limits (omega (arith, length-append nodes (node ∷ []))) h.1 low.1
    ∙ ap Ok (append_assoc nodes (node ∷ []) others)

-- the head that is written reads back
head-taken : (last number : ℕ) (head : TreeHead) (node : Node) (others : List Node) → IsTreeHead head
    → AllByRecursion IsWide (node.depth ∷ node.entries) → head_from last undescribed (numbered_from number (written_lines head (node ∷ others))) ≡ Ok
    (head, numbered_from (number + 1 + 1 + 1) (map node_line (node ∷ others)))
head-taken last number head node others limits wide =
    let behind = numbered_from (number + 1 + 1 + 1) (map node_line (node ∷ others)) in
    let third : NumberedLine = record { number = number + 1 + 1; text = codes "num_nodes=" ++ decimal head.node_count } in
    let second : NumberedLine = record { number = number + 1; text = codes "num_neighbors=" ++ neighbors_text head.neighbors } in
    let first : NumberedLine = record { number = number; text = codes "num_states=" ++ decimal head.states } in
    head-step last undescribed (record undescribed { states = Some head.states }) first (second ∷ third ∷ behind) descriptor.States (decimal head.states)
    (states-line head.states (omega (arith, limits.at_most)))
    (ap (option_map (λ n. record undescribed { states = Some n }))
    (within-read least_states most_states head.states (omega (arith, limits.at_most)) limits.at_least limits.at_most))
    ∙ neighbors-step last head.states head.neighbors (number + 1) (third ∷ behind)
    ∙ head-step last (record { states = Some head.states; neighbors = Some head.neighbors; node_count = None })
    (record { states = Some head.states; neighbors = Some head.neighbors; node_count = Some head.node_count }) third behind descriptor.Nodes
    (decimal head.node_count)
    (nodes-line head.node_count (omega (arith, limits.few)))
    (ap (option_map (λ n. record { states = Some head.states; neighbors = Some head.neighbors; node_count = Some n }))
    (within-read 1 most_nodes head.node_count (omega (arith, limits.few)) limits.some limits.few))
    ∙ head-end last (record { states = Some head.states; neighbors = Some head.neighbors; node_count = Some head.node_count }) head
    (record { number = number + 1 + 1 + 1; text = node_line node }) (numbered_from (number + 1 + 1 + 1 + 1) (map node_line others))
    (numbers-undescribed node.depth node.entries wide) refl

-- what is written means the tree
pub written-means : WrittenMeansTheSame
written-means opened head [] limits are quiet = let some = limits.some in let all = are.count in absurd (omega arith)
written-means opened head (node ∷ others) limits are quiet =
    let nodes = node ∷ others in
    let section = written_section opened head nodes in
    let last = last_number section.opened section.lines in
    ap (λ found. found >>= λ f. nodes_from last f.0 [] f.1 >>= λ ns. if_quiescent (tree_from f.0 ns))
    (head-taken last (opened + 1) head node others limits (node-wide head [] node limits are.low.0 are.each.0))
    ∙ ap (λ read. read >>= λ ns. if_quiescent (tree_from head ns))
    (nodes-taken last (opened + 1 + 1 + 1 + 1) head [] nodes limits (omega (arith, are.count)) are.each are.low)
    ∙ ap (λ v. cond v (Ok (tree_from head nodes)) (Err NotQuiescent)) quiet
