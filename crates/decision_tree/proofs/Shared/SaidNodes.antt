-- The nodes that a section says: each leads to nodes one less deep, and the last is as deep as the root.
use Rattle.decision_tree.proofs.Names.{BadTree, Described, Descriptor, Entries, List, Node, None, NumberedLine, Ok, Option, Section, Some, Tree, TreeHead, [], and_from, arith, cases_lt, common_steps, depth_of_root, describe, descriptor_of}
use Rattle.decision_tree.proofs.Names.{head_from, head_of, if_quiescent, inl, inr, is_next, is_quiescent, is_sound, last_number, leads, length, length-map, map, map-append, map-some, nat_tests, next, node_at, node_of, nodes_from, ok_or}
use Rattle.decision_tree.proofs.Names.{option_map, option_map_or, places_of, refl, root_of, slice_index, some-ok, subst, sym, then-ok, tree_from, tree_of, true, undescribed, with_line, ℕ, ◌++◌, ◌+◌, ◌-◌, ◌<◌, ◌>>=◌, ◌∷◌, ◌≡◌, ◌≤◌}
use Rattle.decision_tree.proofs.Finishing.{levels}
use Rattle.decision_tree.proofs.Shared.Growing.{IsBelow, Leading, entry-below, is_next-node, leading-push}

-- where an entry of a node leads
abbrev pub led : List Entries → ℕ → ℕ → ℕ
led nodes number input = slice_index (node_at nodes number) input

-- an entry of a node of depth two or more leads to a node that is one less deep
pub record AreGraded (states : ℕ) (depths : List ℕ) (nodes : List Entries) : Type 0 where
  pub same : length nodes ≡ length depths
  pub inside : (number input : ℕ) → number < length depths → input < states → 2 ≤ slice_index depths number → led nodes number input < length depths
  pub down : (number input : ℕ) → number < length depths → input < states → 2 ≤ slice_index depths number → slice_index depths (led nodes number input) + 1 ≡ slice_index depths number

module _ (states : ℕ) (depths : List ℕ) (nodes : List Entries) (graded : AreGraded states depths nodes) (depth : ℕ) (node : Entries) (wide : length node ≡ states)
    (fit : 2 ≤ depth → (input : ℕ) → input < states → IsBelow depths depth (slice_index node input)) where
  -- what the entry of a node, old or new, leads to
  fits-now : (number input : ℕ) → number < length depths + 1 → input < states → 2 ≤ slice_index (depths ++ depth ∷ []) number
      → IsBelow depths (slice_index (depths ++ depth ∷ []) number) (led (nodes ++ node ∷ []) number input)
  fits-now number input l under deep = elim (cases_lt number (length depths)) [
    | inl before ↦ grind (arith, common_steps, graded.same, graded.inside number input, graded.down number input)
    | inr behind ↦
        let fits : 2 ≤ depth → IsBelow depths depth (slice_index node input) = λ e. fit e input under in
        grind (arith, common_steps, graded.same, fits)
  ]

  -- with a node whose entries fit behind them they are graded
  pub graded-push : AreGraded states (depths ++ depth ∷ []) (nodes ++ node ∷ [])
  graded-push = record {
    same = grind (arith, common_steps, graded.same);
    inside = λ number input l under deep. grind (arith, common_steps, fits-now number input);
    down = λ number input l under deep. grind (arith, common_steps, fits-now number input);
  }

abbrev pub depths_of : List Node → List ℕ
depths_of nodes = map (λ node. node.depth) nodes

abbrev pub entries_in : List Node → List Entries
entries_in nodes = map (λ node. node.entries) nodes

-- nodes that lines say behind a head
pub record AreSaid (head : TreeHead) (nodes : List Node) : Type 0 where
  pub graded : AreGraded head.states (depths_of nodes) (entries_in nodes)
  pub leading : 2 ≤ head.states → Leading head.states (depths_of nodes) (entries_in nodes)
  pub rooted : 0 < length nodes → length nodes ≡ head.node_count → slice_index (depths_of nodes) (length nodes - 1) ≡ depth_of_root head.neighbors

-- one more node that may stand behind them
said-push : (head : TreeHead) (nodes : List Node) (node : Node) → AreSaid head nodes → is_next head (depths_of nodes) node ≡ true → AreSaid head (nodes ++ node ∷ [])
said-push head nodes node said next =
    let depths = depths_of nodes in
    let is = is_next-node head depths node.depth node.entries next in
    let more : depths_of (nodes ++ node ∷ []) ≡ depths ++ node.depth ∷ [] = map-append (λ n. n.depth) nodes (node ∷ []) in
    let entries : entries_in (nodes ++ node ∷ []) ≡ entries_in nodes ++ node.entries ∷ [] = map-append (λ n. n.entries) nodes (node ∷ []) in
    let below = λ (deep : 2 ≤ node.depth) (input : ℕ) (under : input < head.states). entry-below head.states depths node.entries node.depth input (omega (arith, under, is.width))
    (λ e. absurd (omega (arith, e, deep))) is.fits in
    record {
      graded = rw (more, entries) (graded-push head.states depths (entries_in nodes) said.graded node.depth node.entries is.width below);
      leading = λ least. rw (more, entries)
          (leading-push head.states depths (entries_in nodes) node.depth node.entries (omega (arith, least)) said.graded.same (said.leading least) is.width is.fits);
      rooted = λ some all. grind (arith, common_steps, map-append, is.rooted);
    }

-- the node of a line may stand there
said-next : (head : TreeHead) (nodes : List Node) (line : List ℕ) (node : Node) → node_of head nodes line ≡ Some node → is_next head (depths_of nodes) node ≡ true
said-next head nodes line node h = grind arith

-- nodes that more lines say
said-from : (last : ℕ) (head : TreeHead) (nodes : List Node) (lines : List NumberedLine) (found : List Node) → AreSaid head nodes → nodes_from last head nodes lines ≡ Ok found → AreSaid head found × (length found ≡ head.node_count)
said-from last head nodes [] found said h = grind (arith, nat_tests, said)
said-from last head nodes (line ∷ lines) found said h =
    let more = then-ok (with_line head nodes line) (λ ns. nodes_from last head ns lines) found h in
    let node = map-some (λ (n : Node). nodes ++ n ∷ []) (node_of head nodes line.text) more.0 (some-ok (option_map (λ (n : Node). nodes ++ n ∷ []) (node_of head nodes line.text)) (BadTree line.number) more.0 more.1) in
    said-from last head more.0 lines found (subst (AreSaid head) node.2 (said-push head nodes node.0 said (said-next head nodes line.text node.0 node.1))) more.2

-- what is described so far is of one node and two states at least
record AreEnough (d : Described) : Type 0 where
  some : (n : ℕ) → d.node_count ≡ Some n → 1 ≤ n
  two : (n : ℕ) → d.states ≡ Some n → 2 ≤ n

described-enough : (d : Described) (x : Descriptor) (value : List ℕ) (e : Described) → AreEnough d → describe d x value ≡ Some e → AreEnough e
described-enough d x value e enough h = grind (arith, nat_tests, enough.some, enough.two)

-- and so is the head of a section
found-enough : (last : ℕ) (d : Described) (lines : List NumberedLine) (found : TreeHead × List NumberedLine) → AreEnough d → head_from last d lines ≡ Ok found → (1 ≤ found.0.node_count) × (2 ≤ found.0.states)
found-enough last d [] found enough h = absurd cc
found-enough last d (line ∷ lines) found enough h = by (descriptor_of line.text) h (λ e. found-enough last e lines found)
  where
    by : (o : Option (Descriptor × List ℕ)) → option_map_or (λ x. ok_or (describe d x.0 x.1) (BadTree line.number) >>= λ e. head_from last e lines) o
        (ok_or (head_of d) (BadTree line.number) >>= λ head. Ok (head, line ∷ lines)) ≡ Ok found
        → ((e : Described) → AreEnough e → head_from last e lines ≡ Ok found → (1 ≤ found.0.node_count) × (2 ≤ found.0.states))
        → (1 ≤ found.0.node_count) × (2 ≤ found.0.states)
    by None ok rest = grind (arith, enough.some, enough.two)
    by (Some x) ok rest = let said = λ (e : Described). described-enough d x.0 x.1 e enough in grind (arith, rest, said)

-- a tree that a section says, by its head and its nodes
pub record IsSaid (tree : Tree) : Type 0 where
  pub head : TreeHead
  pub nodes : List Node
  pub is : tree_from head nodes ≡ tree
  pub said : AreSaid head nodes
  pub all : length nodes ≡ head.node_count
  pub some : 1 ≤ head.node_count
  pub two : 2 ≤ head.states
  pub quiet : is_quiescent tree ≡ true

pub section-says : (section : Section) (tree : Tree) → tree_of section ≡ Ok tree → IsSaid tree
section-says section tree h =
    let last = last_number section.opened section.lines in
    let found = then-ok (head_from last undescribed section.lines) (λ f. nodes_from last f.0 [] f.1 >>= λ ns. if_quiescent (tree_from f.0 ns)) tree h in
    let nodes = then-ok (nodes_from last found.0.0 [] found.0.1) (λ ns. if_quiescent (tree_from found.0.0 ns)) tree found.2 in
    let none : AreSaid found.0.0 [] = record {
      graded = record { same = refl; inside = λ number input l. absurd (omega (arith, l)); down = λ number input l. absurd (omega (arith, l)) };
      leading = λ least number inputs l. absurd (omega (arith, l));
      rooted = λ some. absurd (omega (arith, some));
    } in
    let said = said-from last found.0.0 [] found.0.1 nodes.0 none nodes.1 in
    let enough = found-enough last undescribed section.lines found.0 (record { some = λ n e. absurd cc; two = λ n e. absurd cc }) found.1 in
    record {
      head = found.0.0;
      nodes = nodes.0;
      is = (quiet (tree_from found.0.0 nodes.0) tree nodes.2).0;
      said = said.0;
      all = said.1;
      some = enough.0;
      two = enough.1;
      quiet = (quiet (tree_from found.0.0 nodes.0) tree nodes.2).1;
    }
  where
    quiet : (x y : Tree) → if_quiescent x ≡ Ok y → (x ≡ y) × (is_quiescent y ≡ true)
    quiet x y h = grind arith

-- a tree that a section says is one that a file may have
pub section-sound : (section : Section) (tree : Tree) → tree_of section ≡ Ok tree → is_sound tree ≡ true
section-sound section tree h =
    let said : IsSaid tree = section-says section tree h in
    let many : length said.nodes ≡ length (entries_in said.nodes) = sym (length-map said.nodes (λ node. node.entries)) in
    let deep : length (places_of said.head.neighbors) ≡ slice_index (depths_of said.nodes) (length (entries_in said.nodes) - 1) =
    grind (arith, levels said.head.neighbors, said.said.rooted, said.all, said.some, many) in
    let leading = said.said.leading said.two (length (entries_in said.nodes) - 1) (places_of said.head.neighbors) (grind (arith, common_steps, many, said.all, said.some)) deep in
    and_from (is_quiescent tree) (leads tree.states tree.nodes (root_of tree) (places_of tree.neighbors)) said.quiet
    (subst (λ (t : Tree). leads t.states t.nodes (root_of t) (places_of t.neighbors) ≡ true) said.is leading)

pub ruleset sound_sections = (section-sound)
