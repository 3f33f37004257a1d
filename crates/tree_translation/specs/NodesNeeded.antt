-- How many nodes a tree of a table has at least.
-- Inputs that have begun in two ways need two nodes where something that may follow tells them
-- apart (Myhill and Nerode).
use Rattle.std.specs.Prelude.{◌≡◌, ◌≢◌, ◌⊎◌, ℕ, ◌<◌, All, List, [], ◌++◌, length, slice_index_or}
use Rattle.worlds.specs.Step.{AreNineBelow}
use Rattle.table_symmetry.specs.NextState as table_rule
use Rattle.table_symmetry.specs.Table.{Table}
use Rattle.tree_translation.specs.Translation.{AllInside, neighbors_of}
use Rattle.decision_tree.specs.Tree.{inputs_of, places_of}

-- two ways in which the inputs of a tree for a table begin, and a rest behind which the next states
-- differ
pub record GoOnDifferently (table : Table) (first second : List ℕ) : Type 0 where
  pub rest : List ℕ
  pub around : List ℕ
  pub other : List ℕ
  pub nine : AreNineBelow table.states around
  pub other_nine : AreNineBelow table.states other
  pub inputs : inputs_of (neighbors_of table.neighborhood) around ≡ first ++ rest
  pub other_inputs : inputs_of (neighbors_of table.neighborhood) other ≡ second ++ rest
  pub differ : table_rule.next table around ≢ table_rule.next table other

-- no node serves both: a node has one depth, and what is found from it depends on the rest alone
abbrev pub NeedTwoNodes : Table → List ℕ → List ℕ → Type 0
NeedTwoNodes table first second =
    (length first ≢ length second) ⊎ GoOnDifferently table first second

-- so many beginnings of inputs, of which each needs a node of its own
pub record NeedsNodes (table : Table) (count : ℕ) : Type 0 where
  pub beginnings : List (List ℕ)
  pub many : length beginnings ≡ count
  pub below : AllInside table.states beginnings
  pub short : All
      (λ (beginning : List ℕ). length beginning
      < length (places_of (neighbors_of table.neighborhood)))
      beginnings
  pub apart : (i j : ℕ) → i < j → j < count
      → NeedTwoNodes table (slice_index_or beginnings i []) (slice_index_or beginnings j [])
