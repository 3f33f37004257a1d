-- A tree that does what a table does.
use Rattle.std.specs.Prelude.{◌≡◌, ℕ, ◌-◌, ◌<◌, ◌≤◌, All, List, [], ◌∷◌, length, nat_lt, slice_index, Option, None, Some, true, if◌then◌else◌, unwrap_or}
use Rattle.std.specs.List.{list_all}
use Rattle.std.specs.Option.{option_or}
use Rattle.rule_file.specs.States.{most_states}
use Rattle.table_symmetry.specs.declared.expansion.Expanded.{Expanded}
use Rattle.table_symmetry.specs.Expanded.{transition_limit}
use Rattle.table_lines.specs.declared.neighborhood.Neighborhood.{Neighborhood}
use Rattle.table_lines.specs.declared.neighborhood.Neighborhood.TheVariants.{VonNeumann, Moore, Hexagonal, OneDimensional}
use Rattle.table_symmetry.specs.NextState as table_rule
use Rattle.table_symmetry.specs.Table.{Table}
use Rattle.tree_translation.specs.declared.layers.Layer.{Layer}
use Rattle.decision_tree.specs.declared.tree.Neighbors.{Neighbors}
use Rattle.decision_tree.specs.declared.tree.Neighbors.TheVariants.{Four, Eight}
use Rattle.tree_translation.specs.Layers.{all_allow, asked, lets, rest_at, result_of}
use Rattle.decision_tree.specs.Tree.{Entries, Tree, follow, inputs_of, leads, next}

-- the neighbours of a tree for a table: the four or the eight that hold the table's
abbrev pub neighbors_of : Neighborhood → Neighbors
neighbors_of VonNeumann = Four
neighbors_of Moore = Eight
neighbors_of Hexagonal = Eight
neighbors_of OneDimensional = Four

-- a tree with the next states of a table, whatever its states at and around a cell are
pub record Translates (table : Table) (tree : Tree) : Type 0 where
  pub states : tree.states ≡ table.states
  pub neighbors : tree.neighbors ≡ neighbors_of table.neighborhood
  pub same : (around : List ℕ) → All (λ s. s < table.states) around
      → next tree around ≡ table_rule.next table around

-- how many nodes a translated tree may have
abbrev pub node_limit : ℕ
node_limit = 1000000

-- where the inputs of a tree, from the root down, stand in the rows of a table, if they do
abbrev pub order_of : Neighborhood → List (Option ℕ)
order_of VonNeumann = Some 1 ∷ Some 4 ∷ Some 2 ∷ Some 3 ∷ Some 0 ∷ []
order_of Moore = Some 8 ∷ Some 2 ∷ Some 6 ∷ Some 4 ∷ Some 1 ∷ Some 7 ∷ Some 3 ∷ Some 5 ∷ Some 0 ∷ []
order_of Hexagonal = Some 6 ∷ None ∷ None ∷ Some 3 ∷ Some 1 ∷ Some 5 ∷ Some 2 ∷ Some 4 ∷ Some 0 ∷ []
order_of OneDimensional = None ∷ Some 1 ∷ Some 2 ∷ None ∷ Some 0 ∷ []

-- the first that a function gives for some of these
abbrev pub first_some : {X : Type 0} → (X → Option ℕ) → List X → Option ℕ
first_some f [] = None
first_some f (x ∷ xs) = option_or (f x) (first_some f xs)

abbrev pub last_of : List ℕ → ℕ
last_of [] = 0
last_of (s ∷ []) = s
last_of (s ∷ t ∷ inputs) = last_of (t ∷ inputs)

-- what tails do: the result of the first that has one for the inputs, else the last input, which is
-- the cell's state
abbrev pub outcome : List Layer → List ℕ → List ℕ → ℕ
outcome layers list inputs =
    unwrap_or (first_some (λ number. result_of layers number inputs) list) (last_of inputs)

-- what is asked of what a tail leaves behind an input of this state
abbrev pub asked_behind : Layer → ℕ → (ℕ → Option ℕ) → ℕ → Option ℕ
asked_behind layer state f number =
    if lets layer number state then f (rest_at layer number) else None

-- what is left of tails behind an input of this state:
-- whatever is asked of what they leave, the first answer is the same
abbrev pub LeftOf : Layer → ℕ → List ℕ → List ℕ → Type 0
LeftOf layer state list left =
    (f : ℕ → Option ℕ) → first_some f left ≡ first_some (asked_behind layer state f) list

-- a node that does what a list of tails does
pub record Does (states : ℕ) (layers : List Layer) (nodes : List Entries) (list : List ℕ)
    (number : ℕ)
    : Type 0 where
  pub leading : (inputs : List ℕ) → length inputs ≡ length layers
      → leads states nodes number inputs ≡ true
  pub follows : (inputs : List ℕ) → length inputs ≡ length layers
      → list_all (λ s. nat_lt s states) inputs ≡ true
      → follow nodes number inputs ≡ outcome layers list inputs

-- what rows do, whose inputs are asked in this order: the first that allows the inputs gives its
-- result, else the cell keeps its state, which is the last input
abbrev pub rows_give : List (Option ℕ) → List Expanded → List ℕ → ℕ
rows_give order rows inputs =
    unwrap_or
    (first_some
    (λ (row : Expanded). if all_allow (asked order row.inputs) inputs then Some row.result
    else None)
    rows)
    (last_of inputs)

-- nodes of which the last does what the rows do
pub record DoesRows (states : ℕ) (order : List (Option ℕ)) (rows : List Expanded)
    (nodes : List Entries)
    : Type 0 where
  pub leading : (inputs : List ℕ) → length inputs ≡ length order
      → leads states nodes (length nodes - 1) inputs ≡ true
  pub follows : (inputs : List ℕ) → length inputs ≡ length order
      → list_all (λ s. nat_lt s states) inputs ≡ true
      → follow nodes (length nodes - 1) inputs ≡ rows_give order rows inputs

-- rows with results among so many states, and an order of one input or more for them
pub record CanTranslate (states : ℕ) (order : List (Option ℕ)) (rows : List Expanded) : Type 0 where
  pub some : 1 ≤ states
  pub at_most : states ≤ most_states
  pub asked : 1 ≤ length order
  pub few : length rows ≤ transition_limit
  pub below : All (λ (row : Expanded). row.result < states) rows

-- nodes of which the last is the root of a tree that does what a table does
pub record DoTable (table : Table) (nodes : List Entries) : Type 0 where
  pub width : All (λ node. length node ≡ table.states) nodes
  pub leading : (inputs : List ℕ) → length inputs ≡ length (order_of table.neighborhood)
      → leads table.states nodes (length nodes - 1) inputs ≡ true
  pub same : (around : List ℕ) → All (λ s. s < table.states) around
      → follow nodes (length nodes - 1) (inputs_of (neighbors_of table.neighborhood) around)
      ≡ table_rule.next table around

-- for each state of the last input the first result that is left, or the state
pub record AreLeaves (states : ℕ) (layer : Layer) (list leaf : List ℕ) : Type 0 where
  pub width : length leaf ≡ states
  pub each : (s : ℕ) → s < states
      → slice_index leaf s
      ≡ unwrap_or
      (first_some
      (λ number. if lets layer number s then Some (rest_at layer number) else None)
      list)
      s

-- lists of numbers below a count
abbrev pub AllInside : ℕ → List (List ℕ) → Type 0
AllInside count lists = All (λ list. All (λ n. n < count) list) lists
