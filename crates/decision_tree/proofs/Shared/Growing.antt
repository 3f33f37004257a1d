-- Nodes stay what they are where one more comes behind them.
use Rattle.decision_tree.proofs.Names.{AreKept, Bool, EachIndex, Entries, IsTreeHead, List, TreeHead, [], and_parts, ap, arith, below_more, cases_eq, common_steps, depth_of_root, do_entries_fit, get_or_append_left, get_or_push, inl, inr}
use Rattle.decision_tree.proofs.Names.{is_next, leads, leads-width, length, length-append, list_all, nat_lt, nat_tests, node_at, nodes_in, refl, slice_index, sym, true, ℕ, ◌&&◌, ◌*◌, ◌++◌, ◌+◌, ◌-◌, ◌<◌, ◌==◌, ◌∙◌, ◌∷◌, ◌≡◌, ◌≢◌, ◌≤◌}
use Rattle.std.proofs.Math.Seq.{get_or-append_seam}
use Rattle.std.proofs.lemmas.List.Sums.{AllPass-from_list_all}
use Rattle.decision_tree.proofs.Shared.KeptNodes.{length-nodes_in, none-past, nodes_in-push}

-- what holds of each, holds of each what follows from it
list_all-follows : (p q : ℕ → Bool) (xs : List ℕ) → list_all p xs ≡ true → ((x : ℕ) → p x ≡ true → q x ≡ true) → list_all q xs ≡ true
list_all-follows p q [] h f = refl
list_all-follows p q (x ∷ xs) h f = grind (arith, f x, list_all-follows p q xs)

-- a node of n entries leads on where each of them does
pub leads-node : (n : ℕ) (nodes : List Entries) (number : ℕ) (node : List ℕ) (input : ℕ) (inputs : List ℕ) → node_at nodes number ≡ node
    → length node ≡ n → list_all (λ entry. leads n nodes entry inputs) node ≡ true → leads n nodes number (input ∷ inputs) ≡ true
leads-node n nodes number node input inputs at width all = rw at (grind (arith, nat_tests))

-- more nodes change nothing for those before
pub leads-append : (n : ℕ) (nodes more : List Entries) (number : ℕ) (inputs : List ℕ) → 0 < n → leads n nodes number inputs ≡ true → leads n (nodes ++ more) number inputs ≡ true
leads-append n nodes more number [] some h = h
leads-append n nodes more number (input ∷ inputs) some h =
    let node = node_at nodes number in
    let width : length node ≡ n = leads-width n nodes number input inputs h in
    let inside : number < length nodes = none-past nodes number n some width in
    let all : list_all (λ entry. leads n nodes entry inputs) node ≡ true = (and_parts (length node == n) (list_all (λ entry. leads n nodes entry inputs) node) h).1 in
    leads-node n (nodes ++ more) number node input inputs (get_or_append_left nodes more [] number inside) width
    (list_all-follows (λ entry. leads n nodes entry inputs) (λ entry. leads n (nodes ++ more) entry inputs) node all (λ entry k. leads-append n nodes more entry inputs some k))

-- each of these nodes leads to states through as many nodes as it is deep
abbrev pub Leading : ℕ → List ℕ → List Entries → Type 0
Leading n depths nodes = (number : ℕ) (inputs : List ℕ) → number < length depths → length inputs ≡ slice_index depths number → leads n nodes number inputs ≡ true

-- the entries of a node of depth 1 are states
fits-low : (n : ℕ) (depths node : List ℕ) (depth : ℕ) → 1 ≡ depth → do_entries_fit n depths (record { depth = depth; entries = node }) ≡ true → list_all (λ s. nat_lt s n) node ≡ true
fits-low n depths node depth one h = grind (arith, nat_tests)

-- those of a deeper node are the numbers of nodes one less deep
fits-high : (n : ℕ) (depths node : List ℕ) (depth : ℕ) → depth ≢ 1 → do_entries_fit n depths (record { depth = depth; entries = node }) ≡ true → list_all (λ k. nat_lt k (length depths) && (slice_index depths k + 1 == depth)) node ≡ true
fits-high n depths node depth more h = grind (arith, nat_tests)

-- a number of a node one less deep
pub record IsBelow (depths : List ℕ) (depth k : ℕ) : Type 0 where
  pub earlier : k < length depths
  pub less : slice_index depths k + 1 ≡ depth

is-below : (depths : List ℕ) (depth k : ℕ) → (nat_lt k (length depths) && (slice_index depths k + 1 == depth)) ≡ true → IsBelow depths depth k
is-below depths depth k h = grind (arith, nat_tests)

-- an entry of a node that isn't of depth 1 is such a number
pub entry-below : (n : ℕ) (depths node : List ℕ) (depth k : ℕ) → k < length node → depth ≢ 1 → do_entries_fit n depths (record { depth = depth; entries = node }) ≡ true
    → IsBelow depths depth (slice_index node k)
entry-below n depths node depth k inside more h = is-below depths depth (slice_index node k) (AllPass-from_list_all _ node (fits-high n depths node depth more h) k 0 inside)

-- the same of one more node, whose entries fit
leads-fitting : (n : ℕ) (depths : List ℕ) (nodes : List Entries) (depth : ℕ) (node inputs : List ℕ) → 0 < n → length nodes ≡ length depths
    → Leading n depths nodes → length node ≡ n → do_entries_fit n depths (record { depth = depth; entries = node }) ≡ true → length inputs ≡ depth
    → leads n (nodes ++ node ∷ []) (length depths) inputs ≡ true
leads-fitting n depths nodes depth node [] some count leading width fits long =
    let more : depth ≢ 1 = λ one. absurd (omega (arith, one, long)) in
    let below : IsBelow depths depth (slice_index node 0) = entry-below n depths node depth 0 (omega arith) more fits in
    absurd (omega (arith, below.less, long))
leads-fitting n depths nodes depth node (input ∷ []) some count leading width fits long =
    leads-node n (nodes ++ node ∷ []) (length depths) node input [] (get_or_push nodes node [] (length depths) count) width (fits-low n depths node depth long fits)
leads-fitting n depths nodes depth node (input ∷ second ∷ inputs) some count leading width fits long =
    let more : depth ≢ 1 = λ one. absurd (omega (arith, one, long)) in
    leads-node n (nodes ++ node ∷ []) (length depths) node input (second ∷ inputs) (get_or_push nodes node [] (length depths) count) width
    (list_all-follows _ (λ k. leads n (nodes ++ node ∷ []) k (second ∷ inputs)) node (fits-high n depths node depth more fits)
    (λ k h. let below = is-below depths depth k h in
    leads-append n nodes (node ∷ []) k (second ∷ inputs) some (leading k (second ∷ inputs) below.earlier (omega (arith, below.less, long)))))

-- the same of all, with one more node whose entries fit
pub leading-push : (n : ℕ) (depths : List ℕ) (nodes : List Entries) (depth : ℕ) (node : List ℕ) → 0 < n → length nodes ≡ length depths
    → Leading n depths nodes → length node ≡ n → do_entries_fit n depths (record { depth = depth; entries = node }) ≡ true
    → Leading n (depths ++ depth ∷ []) (nodes ++ node ∷ [])
leading-push n depths nodes depth node some count leading width fits number inputs l long =
    below_more (λ k. length inputs ≡ slice_index (depths ++ depth ∷ []) k → leads n (nodes ++ node ∷ []) k inputs ≡ true) (length depths)
    (λ k h e. leads-append n nodes (node ∷ []) k inputs some (leading k inputs h (e ∙ get_or_append_left depths (depth ∷ []) 0 k h)))
    (λ e. leads-fitting n depths nodes depth node inputs some count leading width fits (e ∙ get_or-append_seam depths depth [] 0))
    number (omega (arith, l, length-append depths (depth ∷ []))) long

-- what makes a node the next one
pub record IsNextNode (head : TreeHead) (depths : List ℕ) (depth : ℕ) (node : List ℕ) : Type 0 where
  pub room : length depths < head.node_count
  pub width : length node ≡ head.states
  pub fits : do_entries_fit head.states depths (record { depth = depth; entries = node }) ≡ true
  pub rooted : length depths + 1 ≡ head.node_count → depth ≡ depth_of_root head.neighbors

pub is_next-node : (head : TreeHead) (depths : List ℕ) (depth : ℕ) (node : List ℕ) → is_next head depths (record { depth = depth; entries = node }) ≡ true → IsNextNode head depths depth node
is_next-node head depths depth node h = grind (arith, nat_tests)

-- the next node isn't deeper than there are nodes then
pub depth-low : (head : TreeHead) (depths : List ℕ) (depth : ℕ) (node : List ℕ) → 2 ≤ head.states → EachIndex depths (λ k. slice_index depths k ≤ length depths) → IsNextNode head depths depth node → depth ≤ length depths + 1
depth-low head depths depth node some low next = elim (cases_eq depth 1) [
  | inl one ↦ omega (arith, one)
  | inr more ↦
      let below = entry-below head.states depths node depth 0 (omega (arith, next.width, some)) more next.fits in
      omega (arith, below.less, low (slice_index node 0) below.earlier)
]

-- its entries are small numbers
pub entries-low : (head : TreeHead) (depths : List ℕ) (depth : ℕ) (node : List ℕ) → IsTreeHead head → IsNextNode head depths depth node → list_all (λ n. nat_lt n 16777216) node ≡ true
entries-low head depths depth node limits next = elim (cases_eq depth 1) [
  | inl one ↦ list_all-follows _ _ node (fits-low head.states depths node depth (sym one) next.fits) (λ s k. grind (arith, nat_tests, k, limits.at_most))
  | inr more ↦ list_all-follows _ _ node (fits-high head.states depths node depth more next.fits) (λ s k. grind (arith, nat_tests, k, next.room, limits.few))
]

-- the nodes with the next one
pub kept-push : (head : TreeHead) (depths entries : List ℕ) (depth : ℕ) (node : List ℕ) → IsTreeHead head → AreKept head depths entries → IsNextNode head depths depth node → AreKept head (depths ++ depth ∷ []) (entries ++ node)
kept-push head depths entries depth node limits kept next =
    let n = head.states in
    let nodes = nodes_in n (length depths) entries in
    let longer : length (depths ++ depth ∷ []) ≡ length depths + 1 = length-append depths (depth ∷ []) in
    let more : nodes_in n (length (depths ++ depth ∷ [])) (entries ++ node) ≡ nodes ++ node ∷ [] =
    rw longer (nodes_in-push n (length depths) entries node kept.filled next.width) in
    let low : depth ≤ length depths + 1 = depth-low head depths depth node limits.at_least kept.low next in
    record {
      filled = omega (arith, length-append entries node, longer, kept.filled, next.width, ap (λ k. k * n) longer);
      few = omega (arith, longer, next.room);
      low = λ k h. grind (arith, common_steps, kept.low k, low, longer);
      leading = rw more (leading-push n depths nodes depth node (omega (arith, limits.at_least)) (length-nodes_in n (length depths) entries) kept.leading next.width next.fits);
      rooted = λ whole. get_or_push depths depth 0 (head.node_count - 1) (omega (arith, whole, longer)) ∙ next.rooted (sym longer ∙ whole);
    }
