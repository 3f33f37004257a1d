-- Trees have as many nodes as their tables need.
use Rattle.tree_translation.proofs.Names.{All, All-tail, Entries, List, NeedTwoNodes, NeedsNodes, Neighbors, Ok, Table, Translates, Tree, [], ap, arith, cases_order, follow, inl, inputs_of, inr, length, length-map, neighbors_of, places_of}
use Rattle.tree_translation.proofs.Names.{refl, root_of, slice_index, slice_index_or, suc, sym, ℕ, ◌++◌, ◌+◌, ◌-◌, ◌<◌, ◌∙◌, ◌∷◌, ◌≡◌, ◌≤◌}
use Rattle.indexmap.proofs.IndexTableLemmas.Probe.{pigeonhole}
use Rattle.rule_file.specs.RuleFile.{Section}
use Rattle.table_symmetry.specs.NextState as table_rule
use Rattle.decision_tree.specs.TreeLines.{depth_of_root, tree_of}
use Rattle.decision_tree.proofs.Shared.SaidNodes.{AreGraded, IsSaid, depths_of, entries_in, led, section-says}

-- the root is as deep as there are inputs
deep-root : (neighbors : Neighbors) → depth_of_root neighbors ≡ length (places_of neighbors)
deep-root neighbors = grind arith

-- what is followed for inputs and more inputs is followed for the latter from where the former lead
follow-on : (nodes : List Entries) (number : ℕ) (first rest : List ℕ) → follow nodes number (first ++ rest) ≡ follow nodes (follow nodes number first) rest
follow-on nodes number [] rest = refl
follow-on nodes number (input ∷ first) rest = follow-on nodes (led nodes number input) first rest

module _ (states : ℕ) (depths : List ℕ) (nodes : List Entries) (graded : AreGraded states depths nodes) where
  -- inputs lead to a node that is so much less deep
  pub record LeadsTo (number depth : ℕ) : Type 0 where
    pub inside : number < length depths
    pub deep : slice_index depths number ≡ suc depth

  leads-to : (inputs : List ℕ) (number depth : ℕ) → number < length depths → slice_index depths number ≡ length inputs + suc depth → All (λ s. s < states) inputs → LeadsTo (follow nodes number inputs) depth
  leads-to [] number depth inside is below = record { inside = inside; deep = omega (arith, is) }
  leads-to (input ∷ inputs) number depth inside is below =
      let under : input < states = below 0 input (omega arith) in
      let deep : 2 ≤ slice_index depths number = omega (arith, is) in
      let next = graded.inside number input inside under deep in
      leads-to inputs (led nodes number input) depth next (omega (arith, graded.down number input inside under deep, is)) (All-tail (λ s. s < states) input inputs below)

module _ (table : Table) (count : ℕ) (needed : NeedsNodes table count) (tree : Tree) (said : IsSaid tree) (same : Translates table tree) where
  abbrev beginning : ℕ → List ℕ
  beginning k = slice_index_or needed.beginnings k []

  -- where a beginning leads
  abbrev reached : ℕ → ℕ
  reached k = follow tree.nodes (root_of tree) (beginning k)

  nodes-said : entries_in said.nodes ≡ tree.nodes
  nodes-said = ap (λ (t : Tree). t.nodes) said.is

  many : length tree.nodes ≡ length said.nodes
  many = ap length (sym nodes-said) ∙ length-map said.nodes (λ node. node.entries)

  depths-many : length (depths_of said.nodes) ≡ length tree.nodes
  depths-many = length-map said.nodes (λ node. node.depth) ∙ sym many

  graded : AreGraded table.states (depths_of said.nodes) tree.nodes
  graded =
      let states : said.head.states ≡ table.states = ap (λ (t : Tree). t.states) said.is ∙ same.states in
      rw (nodes-said, states) at said.said.graded

  root-deep : slice_index (depths_of said.nodes) (root_of tree) ≡ length (places_of (neighbors_of table.neighborhood))
  root-deep =
      let neighbors : said.head.neighbors ≡ neighbors_of table.neighborhood = ap (λ (t : Tree). t.neighbors) said.is ∙ same.neighbors in
      rw (many, ← neighbors) (said.said.rooted (omega (arith, said.all, said.some)) said.all ∙ deep-root said.head.neighbors)

  short : (k : ℕ) → k < count → length (beginning k) < length (places_of (neighbors_of table.neighborhood))
  short k l = needed.short k [] (omega (arith, l, needed.many))

  -- a beginning leads to a node that is as deep as inputs are left
  leads : (k : ℕ) → k < count → LeadsTo table.states (depths_of said.nodes) tree.nodes graded (reached k) (length (places_of (neighbors_of table.neighborhood)) - 1 - length (beginning k))
  leads k l =
      leads-to table.states (depths_of said.nodes) tree.nodes graded (beginning k) (root_of tree) (length (places_of (neighbors_of table.neighborhood)) - 1 - length (beginning k))
      (omega (arith, depths-many, many, said.all, said.some)) (omega (arith, root-deep, short k l)) (needed.below k [] (omega (arith, l, needed.many)))

  -- what comes behind a beginning is followed from its node
  from-reached : (k : ℕ) (rest around : List ℕ) → All (λ s. s < table.states) around → inputs_of (neighbors_of table.neighborhood) around ≡ beginning k ++ rest → table_rule.next table around ≡ follow tree.nodes (reached k) rest
  from-reached k rest around below inputs =
      sym (same.same around below)
      ∙ ap (λ n. follow tree.nodes (root_of tree) (inputs_of n around)) same.neighbors
      ∙ ap (follow tree.nodes (root_of tree)) inputs
      ∙ follow-on tree.nodes (root_of tree) (beginning k) rest

  -- no two lead to one node
  apart : (i j : ℕ) → i < count → j < count → NeedTwoNodes table (beginning i) (beginning j) → reached i ≡ reached j → ⊥
  apart i j li lj (inl longer) one = longer (omega (arith, (leads i li).deep, (leads j lj).deep, ap (slice_index (depths_of said.nodes)) one, short i li, short j lj))
  apart i j li lj (inr differ) one =
      differ.differ (from-reached i differ.rest differ.around differ.nine.below differ.inputs
      ∙ ap (λ n. follow tree.nodes n differ.rest) one
      ∙ sym (from-reached j differ.rest differ.other differ.other_nine.below differ.other_inputs))

  enough : count ≤ length tree.nodes
  enough = pigeonhole count (length tree.nodes) reached (λ k l. omega (arith, (leads k l).inside, depths-many)) (λ i j li lj one. elim (cases_order i j) [
    | inl e ↦ e
    | inr (inl before) ↦ absurd (apart i j li lj (needed.apart i j before lj) one)
    | inr (inr behind) ↦ absurd (apart j i lj li (needed.apart j i behind li) (sym one))
  ])

-- a tree of a section that does what a table does has as many nodes as the table needs
pub nodes-had : (table : Table) (count : ℕ) (section : Section) (tree : Tree) → NeedsNodes table count → tree_of section ≡ Ok tree → Translates table tree → count ≤ length tree.nodes
nodes-had table count section tree needed is same = enough table count needed tree (section-says section tree is) same
