-- Beginnings of a table's inputs, by those of its rows.
use Rattle.tree_translation.proofs.Names.{All, All-append, All-from_recursion, AreExpanded, AreNineBelow, Expanded, List, NeedStarts, NeedTwoNodes, NeedsNodes, Neighbors, Start, StartsApart, Table, [], ap, arith, get_or-map, inl, inputs_of}
use Rattle.tree_translation.proofs.Names.{inr, length, length-map, map, neighbors_of, order_of, places_of, refl, rows_give, rules, slice_index, slice_index_or, start_at, state-below, subst, sym, ℕ, ◌++◌, ◌<◌, ◌∙◌, ◌∷◌, ◌≡◌}
use Rattle.table_symmetry.specs.NextState as table_rule
use Rattle.decision_tree.specs.declared.tree.Neighbors.TheVariants.{Four, Eight}
use Rattle.tree_translation.proofs.NodeLists.{firsts-all}
use Rattle.tree_translation.proofs.Translating.{places-many, rows-next}

-- states at and around a cell, of which these are a tree's inputs
abbrev around_of : Neighbors → List ℕ → List ℕ
around_of Four inputs = slice_index inputs 4 ∷ slice_index inputs 0 ∷ 0 ∷ slice_index inputs 2 ∷ 0 ∷ slice_index inputs 3 ∷ 0 ∷ slice_index inputs 1 ∷ 0 ∷ []
around_of Eight inputs = slice_index inputs 8 ∷ slice_index inputs 4 ∷ slice_index inputs 1 ∷ slice_index inputs 6 ∷ slice_index inputs 3 ∷ slice_index inputs 7 ∷ slice_index inputs 2 ∷ slice_index inputs 5 ∷ slice_index inputs 0 ∷ []

inputs-around : (neighbors : Neighbors) (inputs : List ℕ) → length inputs ≡ length (places_of neighbors) → inputs_of neighbors (around_of neighbors inputs) ≡ inputs
inputs-around Four inputs long = subst (λ xs. inputs_of Four (around_of Four xs) ≡ xs) (firsts-all 0 5 inputs long) refl
inputs-around Eight inputs long = subst (λ xs. inputs_of Eight (around_of Eight xs) ≡ xs) (firsts-all 0 9 inputs long) refl

-- they are nine states where the inputs are states
around-below : (n : ℕ) (neighbors : Neighbors) (inputs : List ℕ) → 0 < n → All (λ s. s < n) inputs → AreNineBelow n (around_of neighbors inputs)
around-below n neighbors inputs some low = by neighbors (state-below n inputs some low)
  where
    by : (neighbors : Neighbors) → ((k : ℕ) → slice_index inputs k < n) → AreNineBelow n (around_of neighbors inputs)
    by Four at = record { nine = refl; below = All-from_recursion (λ s. s < n) (around_of Four inputs) (search (rules, at, some)) }
    by Eight at = record { nine = refl; below = All-from_recursion (λ s. s < n) (around_of Eight inputs) (search (rules, at)) }

module _ (table : Table) (rows : List Expanded) (count : ℕ) (some : 0 < table.states) (are : AreExpanded table rows)
    (needed : NeedStarts table.states (length (order_of table.neighborhood)) (λ k inputs. rows_give (order_of table.neighborhood) rows inputs) 1 count) where
  abbrev depth : ℕ
  depth = length (order_of table.neighborhood)

  -- states with these inputs
  abbrev states_for : List ℕ → List ℕ
  states_for inputs = around_of (neighbors_of table.neighborhood) inputs

  inputs-for : (inputs : List ℕ) → length inputs ≡ depth → inputs_of (neighbors_of table.neighborhood) (states_for inputs) ≡ inputs
  inputs-for inputs long = inputs-around (neighbors_of table.neighborhood) inputs (long ∙ sym (places-many table.neighborhood))

  -- what the rows give for inputs is the next state of such states
  rows-for : (inputs : List ℕ) → length inputs ≡ depth → rows_give (order_of table.neighborhood) rows inputs ≡ table_rule.next table (states_for inputs)
  rows-for inputs long = ap (rows_give (order_of table.neighborhood) rows) (sym (inputs-for inputs long)) ∙ rows-next table rows are (states_for inputs)

  two-nodes : (i j : ℕ) → i < count → j < count → StartsApart table.states depth (λ k inputs. rows_give (order_of table.neighborhood) rows inputs)
      (start_at needed.starts i) (start_at needed.starts j) → NeedTwoNodes table (start_at needed.starts i).inputs (start_at needed.starts j).inputs
  two-nodes i j li lj (inl longer) = inl longer
  two-nodes i j li lj (inr differ) =
      let one = (start_at needed.starts i).inputs ++ differ.rest in
      let two = (start_at needed.starts j).inputs ++ differ.rest in
      inr (record {
        rest = differ.rest;
        around = states_for one;
        other = states_for two;
        nine = around-below table.states (neighbors_of table.neighborhood) one some (All-append (λ s. s < table.states) (start_at needed.starts i).inputs differ.rest (needed.are i li).below differ.below);
        other_nine = around-below table.states (neighbors_of table.neighborhood) two some (All-append (λ s. s < table.states) (start_at needed.starts j).inputs differ.rest (needed.are j lj).below differ.below);
        inputs = inputs-for one differ.long;
        other_inputs = inputs-for two differ.other_long;
        differ = λ same. differ.differ (rows-for one differ.long ∙ same ∙ sym (rows-for two differ.other_long));
      })

  -- so many starts of its rows' inputs are so many beginnings of the table's
  pub needs-nodes : NeedsNodes table count
  needs-nodes =
      let beginnings = map (λ (start : Start). start.inputs) needed.starts in
      let each : (k : ℕ) (d : List ℕ) → k < count → slice_index_or beginnings k d ≡ (start_at needed.starts k).inputs = λ k d l.
      get_or-map (λ (start : Start). start.inputs) needed.starts k (record { number = 0; inputs = [] }) d (omega (arith, l, needed.many)) in
      let many : length beginnings ≡ count = length-map needed.starts (λ (start : Start). start.inputs) ∙ needed.many in
      record {
        beginnings = beginnings;
        many = many;
        below = λ k d l. rw (each k d (omega (arith, l, many))) (needed.are k (omega (arith, l, many))).below;
        short = λ k d l. rw (each k d (omega (arith, l, many))) (omega (arith, (needed.are k (omega (arith, l, many))).short, places-many table.neighborhood));
        apart = λ i j less l. rw (each i [] (omega (arith, less, l)), each j [] l) (two-nodes i j (omega (arith, less, l)) l (needed.apart i j less l));
      }
