-- A table's rows, and the inputs of its tree.
use Rattle.tree_translation.proofs.Names.{All, AreExpanded, AreLayersOf, DoTable, Does, DoesRows, Entries, Expanded, IsKeptTree, Layer, List, None, Option, Some, Table, Translates, Tree, [], all_allow, and_from, ap, arith, asked, cond}
use Rattle.tree_translation.proofs.Names.{eq-eqb, first_some, get_or_default, inputs_of, is_sound, last_of, leads, leads-width, length, neighbors_of, nine_zeros, nodes_in, none-past, option_or, order_of, outcome, places_of, refl, result_of}
use Rattle.tree_translation.proofs.Names.{rows_give, slice_index, slice_index_or, subst, suc, tree_of_kept, true, unwrap_or, ℕ, ◌*◌, ◌+◌, ◌-◌, ◌<◌, ◌∙◌, ◌∷◌, ◌≡◌, ◌≤◌}
use Rattle.table_lines.specs.declared.neighborhood.Neighborhood.{Neighborhood}
use Rattle.table_lines.specs.declared.neighborhood.Neighborhood.TheVariants.{VonNeumann, Moore, Hexagonal, OneDimensional}
use Rattle.table_symmetry.specs.Expanded.{all_have, first_match}
use Rattle.table_symmetry.specs.NextState as table_rule
use Rattle.tree_translation.proofs.NodeLists.{firsts, firsts-all}

-- functions that agree place by place give the same first answer
first_some-pairs : {X Y : Type 0} (f : X → Option ℕ) (g : Y → Option ℕ) (xs : List X) (ys : List Y) → length xs ≡ length ys
    → ((k : ℕ) (d : X) (e : Y) → k < length ys → f (slice_index_or xs k d) ≡ g (slice_index_or ys k e)) → first_some f xs ≡ first_some g ys
first_some-pairs f g [] [] count each = refl
first_some-pairs f g (x ∷ xs) (y ∷ ys) count each =
    λ i. option_or (each 0 x y (omega arith) i) (first_some-pairs f g xs ys (omega (arith, count)) (λ k d e l. each (suc k) d e (omega (arith, l))) i)
first_some-pairs f g xs ys count each = absurd (omega (arith, count))

-- what the tails of rows do, the rows do
pub rows-outcome : (states : ℕ) (order : List (Option ℕ)) (rows : List Expanded) (layers : List Layer) (numbers inputs : List ℕ)
    → AreLayersOf states order rows layers numbers → length inputs ≡ length order → outcome layers numbers inputs ≡ rows_give order rows inputs
rows-outcome states order rows layers numbers inputs are long =
    ap (λ o. unwrap_or o (last_of inputs)) (first_some-pairs (λ n. result_of layers n inputs) (λ (row : Expanded). cond (all_allow (asked order row.inputs) inputs) (Some row.result) None) numbers rows are.count
    (λ k d e l. ap (λ n. result_of layers n inputs) (get_or_default numbers k d 0 (omega (arith, l, are.count))) ∙ are.stand k e l inputs long))

-- what the root does, the rows do
pub DoesRows-root : (states : ℕ) (order : List (Option ℕ)) (rows : List Expanded) (layers : List Layer) (numbers : List ℕ) (nodes : List Entries)
    → AreLayersOf states order rows layers numbers → Does states layers nodes numbers (length nodes - 1) → DoesRows states order rows nodes
DoesRows-root states order rows layers numbers nodes are does =
    let same = λ (inputs : List ℕ). rows-outcome states order rows layers numbers inputs are in
    grind (arith, does.leading, does.follows, are.depth, same)

-- a row with these sets is asked the same in the order of the tree and in that of the table
abbrev IsAskedAlike : Neighborhood → List ℕ → List (List ℕ) → Type 0
IsAskedAlike neighborhood around sets =
    all_allow (asked (order_of neighborhood) sets) (inputs_of (neighbors_of neighborhood) around) ≡ all_have sets (table_rule.inputs_of neighborhood around)

-- what is asked of the inputs of a tree is what the sets of a row have
pub asked-have : (neighborhood : Neighborhood) (sets : List (List ℕ)) (around : List ℕ) → length sets ≡ length (table_rule.places_of neighborhood) + 1
    → IsAskedAlike neighborhood around sets
asked-have neighborhood sets around full = subst (IsAskedAlike neighborhood around) (firsts-all [] _ sets full) (by neighborhood)
  where
    by : (n : Neighborhood) → IsAskedAlike n around (firsts [] (length (table_rule.places_of n) + 1) sets)
    by VonNeumann = grind arith
    by Moore = grind arith
    by Hexagonal = grind arith
    by OneDimensional = grind arith

-- the last input is the cell's state
last-input : (neighborhood : Neighborhood) (around : List ℕ) → last_of (inputs_of (neighbors_of neighborhood) around) ≡ slice_index around 0
last-input neighborhood around = grind arith

-- there is an input for each place of the order
pub as_many : (neighborhood : Neighborhood) (around : List ℕ) → length (inputs_of (neighbors_of neighborhood) around) ≡ length (order_of neighborhood)
as_many neighborhood around = grind arith

pub places-many : (neighborhood : Neighborhood) → length (places_of (neighbors_of neighborhood)) ≡ length (order_of neighborhood)
places-many neighborhood = grind arith

-- the tree of these nodes
abbrev tree_for : Table → List Entries → Tree
tree_for table nodes = record { states = table.states; neighbors = neighbors_of table.neighborhood; nodes = nodes }

-- the first row that allows the inputs of the tree is the first that has those of the table
first-alike : (neighborhood : Neighborhood) (rows : List Expanded) (around : List ℕ)
    → All (λ (row : Expanded). length row.inputs ≡ length (table_rule.places_of neighborhood) + 1) rows
    → first_some (λ (row : Expanded). cond (all_allow (asked (order_of neighborhood) row.inputs) (inputs_of (neighbors_of neighborhood) around)) (Some row.result) None) rows ≡ first_match rows (table_rule.inputs_of neighborhood around)
first-alike neighborhood [] around full = refl
first-alike neighborhood (row ∷ rows) around full =
    let others : All (λ (r : Expanded). length r.inputs ≡ length (table_rule.places_of neighborhood) + 1) rows = λ k d l. full (suc k) d (omega (arith, l)) in
    rw (asked-have neighborhood row.inputs around (full 0 row (omega arith)), first-alike neighborhood rows around others)
    (grind arith)

-- what the rows of a table give is its next state
pub rows-next : (table : Table) (rows : List Expanded) → AreExpanded table rows → (around : List ℕ)
    → rows_give (order_of table.neighborhood) rows (inputs_of (neighbors_of table.neighborhood) around) ≡ table_rule.next table around
rows-next table rows are around = rw (first-alike table.neighborhood rows around are.full, last-input table.neighborhood around) (are.first around)

-- such a tree is quiescent as its table is, and leads to states
pub sound-tree : (table : Table) (nodes : List Entries) → All (λ s. s < table.states) nine_zeros → DoTable table nodes → table_rule.next table nine_zeros ≡ 0
    → is_sound (tree_for table nodes) ≡ true
sound-tree table nodes zeros does quiet =
    and_from _ _ (eq-eqb _ 0 (does.same nine_zeros zeros ∙ quiet)) (does.leading _ (places-many table.neighborhood))

-- there is a root
pub some-nodes : (table : Table) (nodes : List Entries) → 0 < table.states → DoTable table nodes → 1 ≤ length nodes
some-nodes table nodes some does = by (places_of (neighbors_of table.neighborhood)) (places-some table.neighborhood) (does.leading _ (places-many table.neighborhood))
  where
    places-some : (neighborhood : Neighborhood) → 0 < length (places_of (neighbors_of neighborhood))
    places-some neighborhood = grind arith

    by : (inputs : List ℕ) → 0 < length inputs → leads table.states nodes (length nodes - 1) inputs ≡ true → 1 ≤ length nodes
    by [] more led = absurd (omega (arith, more))
    by (input ∷ inputs) more led = omega (arith, none-past nodes (length nodes - 1) table.states some (leads-width table.states nodes (length nodes - 1) input inputs led))

-- the tree that is kept has these nodes
pub kept-for : (table : Table) (nodes : List Entries) (count : ℕ) (entries : List ℕ) → 1 ≤ count → nodes_in table.states count entries ≡ nodes
    → tree_of_kept table.states (neighbors_of table.neighborhood) (count - 1) entries ≡ tree_for table nodes
kept-for table nodes count entries some same = let again : count - 1 + 1 ≡ count = omega (arith, some) in rw (again, same)

-- it may be kept
pub may-keep : (table : Table) (nodes : List Entries) (count : ℕ) (entries : List ℕ) → 2 ≤ table.states → table.states ≤ 256 → 1 ≤ count
    → length entries ≡ count * table.states → nodes_in table.states count entries ≡ nodes → is_sound (tree_for table nodes) ≡ true
    → IsKeptTree table.states (neighbors_of table.neighborhood) (count - 1) entries
may-keep table nodes count entries least most some filled same sound =
    let again : count - 1 + 1 ≡ count = omega (arith, some) in
    record { at_least = least; at_most = most; filled = rw again filled; sound = ap is_sound (kept-for table nodes count entries some same) ∙ sound }

-- and is a translation
pub translates-kept : (table : Table) (nodes : List Entries) (count : ℕ) (entries : List ℕ) → 1 ≤ count → nodes_in table.states count entries ≡ nodes → DoTable table nodes
    → Translates table (tree_of_kept table.states (neighbors_of table.neighborhood) (count - 1) entries)
translates-kept table nodes count entries some is does = rw (kept-for table nodes count entries some is) (record { states = refl; neighbors = refl; same = does.same })
